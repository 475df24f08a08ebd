-- What lies under a region's lock, and what a pass has seen.
use Rattle.std.specs.Prelude.{◌≡◌, ℕ, ◌≤◌, Bool, false, Contains, List, [], ◌∷◌, map, Some, None}
use Rattle.std.specs.declared.option.Option.{Option}
use Rattle.row_key.specs.Made.{three}
use Rattle.atomic_table.specs.Seated.{TableId}
use Rattle.cell_model.specs.declared.row.Row.{Row}
use Rattle.cell_model.specs.declared.events.Step.TheVariants.{Open}
use Rattle.cell_model.specs.declared.events.Entry.{Entry}
use Rattle.cell_model.specs.declared.events.Placed.{Placed}
use Rattle.cell_model.specs.History.{History, entry_at}
use Rattle.cell_model.specs.Store.{Store, no_cells}
use Rattle.cell_model.specs.Seen.{Seen, Saw, IsOwn, Fits}
use Rattle.cell_laws.specs.StoreParts.{part, replayed}
use Rattle.cell_laws.specs.StoreParts.{is_in}
use Rattle.step_count.specs.declared.counter_rule.TheConstants.{OPENINGS}
use Rattle.step_count.specs.declared.view.Named.{Named}
use Rattle.step_count.specs.declared.view.View.{View}
use Rattle.step_count.specs.CounterRule.{Log, store_in, numbers_in}
use Rattle.step_count.specs.ViewSteps.{Lives}

-- a counter that is none
abbrev pub no_counter : TableId
no_counter = record { words = 0; slots = 0; views_name = 0; atom = 0; block = 0; offset = 0; slot_names = [] }

-- the first number
abbrev pub head_of : List Log → ℕ
head_of [] = 0
head_of (x ∷ xs) = x.0

-- the numbers behind it
abbrev pub rest_of : List Log → List ℕ
rest_of [] = []
rest_of (x ∷ xs) = numbers_in xs

abbrev pub base_in : Option Named → Store
base_in None = no_cells three
base_in (Some n) = store_in n

-- what a pass has seen, as rows are seen
abbrev pub seen_of : View → Seen
seen_of v = record { base = base_in v.named; caller = head_of v.callers; absorbed = rest_of v.callers; length = v.length; entries = v.seen; alone = false }

-- the numbers that a caller has: its own, and those of the callers that it absorbed
abbrev pub numbers_of : Seen → List ℕ
numbers_of s = s.caller ∷ s.absorbed

-- a caller between steps
pub record IsCaller (name : Named) (v : View) : Type 0 where
  pub named : v.named ≡ Some name
  pub free : v.licences ≡ []
  pub first : Log
  pub others : List Log
  pub callers : v.callers ≡ first ∷ others
  pub live : Lives v

-- a region's content is the replay of its licence's entries over the region's part of the base
pub record Replays (name : Named) (number : ℕ) (content : Store) (rows : Row → Bool) (v : View) : Type 0 where
  pub named : v.named ≡ Some name
  pub nobody : v.callers ≡ []
  pub log : List Placed
  pub licence : v.licences ≡ (number, log) ∷ []
  pub content_is : content ≡ replayed (part (is_in name.widths name.data_regions number) (store_in name)) log
  pub rows_are : rows ≡ is_in name.widths name.data_regions number

-- what a note tells
pub record IsNote (name : Named) (v : View) : Type 0 where
  pub named : v.named ≡ Some name
  pub nobody : v.callers ≡ []
  pub free : v.licences ≡ []

-- all that the note tells was seen
pub record Heard (v : View) (s : Seen) : Type 0 where
  pub length : v.length ≤ s.length
  pub kept : (p : Placed) → Contains v.seen p → Saw s p.place p.entry

-- the note tells all that was seen
pub record Tells (v : View) (s : Seen) : Type 0 where
  pub length : v.length ≡ s.length
  pub seen : v.seen ≡ s.entries

-- the numbers of the callers that opened by this licence, in order
abbrev pub opened_by : List Log → List ℕ
opened_by [] = []
opened_by (l ∷ ls) = map (λ (p : Placed). p.entry.caller) l.1

abbrev pub opened_numbers : View → List ℕ
opened_numbers v = opened_by v.licences

-- that by which callers open: it has the licence of openings, with all of them, and has seen nothing else
pub record IsOpener (name : Named) (v : View) : Type 0 where
  pub named : v.named ≡ Some name
  pub nobody : v.callers ≡ []
  pub log : List Placed
  pub licence : v.licences ≡ (OPENINGS, log) ∷ []
  pub only : (p : Placed) → Contains v.seen p → p.entry.step ≡ Open

-- openings are all that was seen
abbrev pub SawOpeningsAlone : Seen → Type 0
SawOpeningsAlone s = (place : ℕ) (e : Entry) → Saw s place e → e.step ≡ Open

-- in each history that fits the later, the caller, and each that it absorbed, made no entry behind those that it had seen
abbrev pub MadeNoMore : Seen → Seen → Type 0
MadeNoMore old new = (h : History) → Fits new h → (place : ℕ) (e : Entry) → place ≤ new.length → IsOwn old e.caller → entry_at h place ≡ Some e → Saw old place e
