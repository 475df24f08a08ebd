-- What a history has of a view, and the rule of the counter: one history, which all views tell together.
use Rattle.std.specs.Prelude.{◌≡◌, ◌≢◌, ℕ, ◌+◌, ◌-◌, ◌<◌, ◌≤◌, Bool, true, false, ◌||◌, ◌&&◌, nat_eq, List, ◌∷◌, ◌++◌, map, replicate, AllPairs, Contains, Some}
use Rattle.std.specs.FinMap.{from_entries}
use mathlib.Core.Option.{some}
use lib.ListN.{get_elem?}
use Rattle.atomic_table.specs.Table.{State}
use Rattle.row_key.specs.declared.regions.TheConstants.{NAME_REGIONS}
use Rattle.cell_model.specs.declared.events.Step.{Step}
use Rattle.cell_model.specs.declared.events.Step.TheVariants.{Open}
use Rattle.cell_model.specs.declared.events.Reply.TheVariants.{Opened}
use Rattle.cell_model.specs.declared.events.Entry.{Entry}
use Rattle.cell_model.specs.declared.events.Placed.{Placed}
use Rattle.cell_model.specs.Store.{Store}
use Rattle.cell_model.specs.History.{History, base_of, len, entry_at}
use Rattle.cell_model.specs.Lawful.{IsLawful}
use Rattle.cell_laws.specs.StoreParts.{is_mine, is_in, picked}
use Rattle.step_count.specs.declared.counter_rule.TheConstants.{COUNT, OPENINGS, WORDS}
use Rattle.step_count.specs.declared.view.Named.{Named}
use Rattle.step_count.specs.declared.view.View.{View}

-- the number of a caller or of a region, and entries at their places
abbrev pub Log : Type 0
Log = ℕ × List Placed

-- the store with which the history begins, and how many regions it has
abbrev pub store_in : Named → Store
store_in n = record { widths = n.widths; cells = from_entries n.base }

abbrev pub region_count : Named → ℕ
region_count n = NAME_REGIONS + n.data_regions

-- the opening of a caller
abbrev pub opening : ℕ → Entry
opening caller = record { caller = caller; step = Open; reply = Opened caller }

-- the entry is the caller's
abbrev pub by_caller : ℕ → Entry → Bool
by_caller caller e = nat_eq e.caller caller

-- the step is an opening
abbrev pub is_open : Step → Bool
is_open Open = true
is_open other = false

-- the entry is made by this licence: it looks at the region, where there are so many data regions, or it is an opening and this is the licence of openings
abbrev pub in_region : Named → ℕ → Entry → Bool
in_region n number e = is_mine (is_in n.widths n.data_regions number) e.step || (is_open e.step && nat_eq number OPENINGS)

-- a lawful history over the named store
pub record IsOver (n : Named) (h : History) : Type 0 where
  pub base : base_of h ≡ store_in n
  pub lawful : IsLawful h

-- the caller's number is the place of its opening; these are all its entries, and each was seen
pub record IsLog (h : History) (seen : List Placed) (caller : ℕ) (log : List Placed) : Type 0 where
  pub opened : entry_at h caller ≡ Some (opening caller)
  pub all : picked (by_caller caller) h ≡ log
  pub each : (p : Placed) → Contains log p → Contains seen p

-- The history may be the store's, by all that the view tells: it is over no other store than the view names, is at least as long as was seen,
-- has each seen entry at its place, of each caller of the view has the view's entries and no other, and by each licence that the view has those that the view has.
pub record Fits (n : Named) (h : History) (v : View) : Type 0 where
  pub named : (m : Named) → v.named ≡ Some m → m ≡ n
  pub long : v.length ≤ len h
  pub seen : (p : Placed) → Contains v.seen p → entry_at h p.place ≡ Some p.entry
  pub callers : (caller : ℕ) (log : List Placed) → Contains v.callers (caller, log) → IsLog h v.seen caller log
  pub regions : (region : ℕ) (log : List Placed) → Contains v.licences (region, log) → picked (in_region n region) h ≡ log

-- the numbers of logs; no number stands twice
abbrev pub numbers_in : List Log → List ℕ
numbers_in logs = map (λ (l : Log). l.0) logs

abbrev pub AreDifferent : List ℕ → Type 0
AreDifferent numbers = AllPairs (λ a b. a ≢ b) numbers

-- no two callers of the view are one
abbrev pub HasEachOnce : View → Type 0
HasEachOnce v = AreDifferent (numbers_in v.callers)

-- the words of the counter at this length: the word that counts, in the middle of others that stay 0
abbrev pub words_of : ℕ → List ℕ
words_of length = replicate COUNT 0 ++ length ∷ replicate (WORDS - (COUNT + 1)) 0

-- nothing is seen past the seen length
abbrev pub Within : View → Type 0
Within v = (p : Placed) → Contains v.seen p → p.place ≤ v.length

-- the view of each seat
abbrev pub InEachView : List View → (View → Type 0) → Type 0
InEachView views P = (seat : ℕ) (v : View) → get_elem? views seat ≡ some v → P v

-- the seat has the number among these logs of its view
pub record Holder (logs : View → List Log) (views : List View) (number seat : ℕ) : Type 0 where
  pub view : View
  pub log : List Placed
  pub at : get_elem? views seat ≡ some view
  pub has : Contains (logs view) (number, log)

-- some seat has the number; no two seats have a number in common
abbrev pub IsHeld : (View → List Log) → List View → ℕ → Type 0
IsHeld logs views number = (seat : ℕ) × Holder logs views number seat

abbrev pub NoTwoHold : (View → List Log) → List View → Type 0
NoTwoHold logs views = (number i j : ℕ) → Holder logs views number i → Holder logs views number j → i ≡ j

-- some seat has seen the entry at this place
pub record IsKnown (views : List View) (place : ℕ) : Type 0 where
  pub seat : ℕ
  pub view : View
  pub entry : Entry
  pub at : get_elem? views seat ≡ some view
  pub has : Contains view.seen (record { place = place; entry = entry })

-- the licences and the callers of a view
abbrev pub licences_in : View → List Log
licences_in v = v.licences

abbrev pub callers_in : View → List Log
callers_in v = v.callers

-- The rule of the counter over a named store. Seats that were dropped keep their views.
pub record Kept (n : Named) (s : State (Unit {0}) View) : Type 0 where
  -- There is one history, which each view fits, so that all views agree; and each of its places is known to a seat.
  pub history : History
  pub fits : InEachView s.views (Fits n history)
  pub known : (place : ℕ) → 1 ≤ place → place ≤ len history → IsKnown s.views place
  -- The counter's word is its length; no view's length is above that, and no view has seen an entry past its own length.
  pub word : s.words ≡ words_of (len history)
  pub within : InEachView s.views Within
  -- It begins with the named store, and is lawful: each entry's caller has opened before.
  pub over : IsOver n history
  -- The licence of each region is in exactly one view, which has all entries of that region. That of openings is in one view at most, which has all openings.
  pub licences : (region : ℕ) → region < region_count n → IsHeld licences_in s.views region
  pub one_licence : NoTwoHold licences_in s.views
  -- Each caller's number is the place of its opening, and is in no other view than the one that has all its entries, and there once.
  pub one_caller : NoTwoHold callers_in s.views
  pub once : InEachView s.views HasEachOnce
