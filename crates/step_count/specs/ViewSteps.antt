-- What each step of the counter does to a view, and what it asks.
use Rattle.std.specs.Prelude.{◌≡◌, ◌≢◌, ℕ, ◌+◌, ◌≤◌, max, ◌==◌, cond, Bool, List, [], ◌∷◌, ◌++◌, Contains, Some, None, true}
use Rattle.std.specs.declared.option.Option.{Option}
use Rattle.atomic_table.specs.Table.{Me, Step}
use Rattle.row_key.specs.Made.{three}
use Rattle.cell_model.specs.declared.events.Entry.{Entry}
use Rattle.cell_model.specs.declared.events.Placed.{Placed}
use Rattle.cell_model.specs.Machine.{reply_of}
use Rattle.cell_model.specs.History.{History, len}
use Rattle.cell_model.specs.Lawful.{MayStep}
use Rattle.cell_model.specs.Deeds.{placed}
use Rattle.cell_laws.specs.StoreParts.{is_in, is_mine, part, StaysWithin, replayed}
use Rattle.step_count.specs.declared.view.Named.{Named}
use Rattle.step_count.specs.declared.view.View.{View}
use Rattle.step_count.specs.CounterRule.{Log, store_in, opening, by_caller, in_region, IsOver, Fits, Within, HasEachOnce}

-- a seat that is spent
abbrev pub blank : View
blank = record { named = None; length = 0; seen = []; callers = []; licences = [] }

-- the history's length was learnt
abbrev pub learned : View → ℕ → View
learned v length = record { named = v.named; length = length; seen = v.seen; callers = v.callers; licences = v.licences }

-- each log whose number the test picks has the entry too
abbrev pub extended : (ℕ → Entry → Bool) → Placed → List Log → List Log
extended test p [] = []
extended test p (l ∷ ls) = (l.0, l.1 ++ cond (test l.0 p.entry) (p ∷ []) []) ∷ extended test p ls

-- the named store, whose regions they are
abbrev pub regions_in : Option Named → Named
regions_in None = record { widths = three; base = []; data_regions = 1 }
regions_in (Some n) = n

-- the entry was added at this place, which is the history's length now
abbrev pub added : View → ℕ → Entry → View
added v place e = record {
  named = v.named;
  length = place;
  seen = placed place e ∷ v.seen;
  callers = extended by_caller (placed place e) v.callers;
  licences = extended (in_region (regions_in v.named)) (placed place e) v.licences;
}

-- a caller opened at this place, which is its number
abbrev pub opened : View → ℕ → View
opened v place = record {
  named = v.named;
  length = place;
  seen = placed place (opening place) ∷ v.seen;
  callers = (place, placed place (opening place) ∷ []) ∷ v.callers;
  licences = extended (in_region (regions_in v.named)) (placed place (opening place)) v.licences;
}

-- what a note has: what was seen, no caller, no licence
abbrev pub noted : View → View
noted v = record { named = v.named; length = v.length; seen = v.seen; callers = []; licences = [] }

-- what two have together: all that either has
abbrev pub first_named : Option Named → Option Named → Option Named
first_named (Some n) other = Some n
first_named None other = other

abbrev pub met : View → View → View
met v w = record {
  named = first_named v.named w.named;
  length = max v.length w.length;
  seen = v.seen ++ w.seen;
  callers = v.callers ++ w.callers;
  licences = v.licences ++ w.licences;
}

-- the logs of other numbers, and those of this one
abbrev pub without : ℕ → List Log → List Log
without number [] = []
without number (l ∷ ls) = cond (l.0 == number) (without number ls) (l ∷ without number ls)

abbrev pub only : ℕ → List Log → List Log
only number [] = []
only number (l ∷ ls) = cond (l.0 == number) (l ∷ only number ls) (only number ls)

-- the region's licence was given away; and the licence, which has seen what the giver has
abbrev pub without_licence : ℕ → View → View
without_licence region v = record { named = v.named; length = v.length; seen = v.seen; callers = v.callers; licences = without region v.licences }

abbrev pub licence_alone : ℕ → View → View
licence_alone region v = record { named = v.named; length = v.length; seen = v.seen; callers = []; licences = only region v.licences }

-- the callers left, and what they are: both have seen the same
abbrev pub without_callers : View → View
without_callers v = record { named = v.named; length = v.length; seen = v.seen; callers = []; licences = v.licences }

abbrev pub callers_alone : View → View
callers_alone v = record { named = v.named; length = v.length; seen = v.seen; callers = v.callers; licences = [] }

-- the view has the region's licence
abbrev pub HasLicence : ℕ → View → Type 0
HasLicence region v = (log : List Placed) × Contains v.licences (region, log)

-- a lawful history of exactly the seen length fits, and no two callers of the view are one
pub record Lives (v : View) : Type 0 where
  pub name : Named
  pub history : History
  pub over : IsOver name history
  pub fits : Fits name history v
  pub within : Within v
  pub whole : len history ≡ v.length
  pub once : HasEachOnce v

-- The entry may be added: it is by a caller of the view, it looks at one region and the view has its licence, its reply is the machine's over the licence's
-- entries, and in each lawful history that fits it is allowed.
pub record MayAdd (v : View) (e : Entry) : Type 0 where
  pub name : Named
  pub named : v.named ≡ Some name
  pub own : List Placed
  pub caller : Contains v.callers (e.caller, own)
  pub region : ℕ
  pub log : List Placed
  pub licence : Contains v.licences (region, log)
  pub mine : is_mine (is_in name.widths name.data_regions region) e.step ≡ true
  pub stays : StaysWithin (is_in name.widths name.data_regions region) e.step
  pub reply : (place : ℕ) → e.reply ≡ reply_of (replayed (part (is_in name.widths name.data_regions region) (store_in name)) log) place e.step
  pub may : (h : History) → IsOver name h → Fits name h v → MayStep h e.caller e.step

-- a seat: what it knows, and what it took, which is nothing here
abbrev pub Seated : Type 0
Seated = Me (Unit {0}) View

-- what the steps on the word tell the seat that makes them: the word is found, and the seat knows more
-- learning the length
abbrev pub Learns : Step (Unit {0}) → Seated → ℕ → Seated → Type 0
Learns st m found m' = (m' ≡ (learned m.0 found, m.1)) × (m.0.length ≤ found) × Lives m'.0

-- adding the entry where the word was as expected, and else learning the length
abbrev pub Adds : Entry → Step (Unit {0}) → Seated → ℕ → Seated → Type 0
Adds e st m found m' = (m.0.length ≤ found) × Lives m'.0 × (found ≡ st.first → m' ≡ (added m.0 (found + 1) e, m.1)) × (found ≢ st.first → m' ≡ (learned m.0 found, m.1))

-- opening where the word was as expected, and else learning the length
abbrev pub Opens : Step (Unit {0}) → Seated → ℕ → Seated → Type 0
Opens st m found m' = (m.0.length ≤ found) × Lives m'.0 × (found ≡ st.first → m' ≡ (opened m.0 (found + 1), m.1)) × (found ≢ st.first → m' ≡ (learned m.0 found, m.1))
