-- What callers that only compact rows do, and what is known where others have taken their places.
use Rattle.std.specs.Prelude.{◌≡◌, ℕ, ◌≤◌, Bool, true, false, List, ◌++◌, length, Contains, Some}
use Rattle.cell_model.specs.declared.events.Step.{Step}
use Rattle.cell_model.specs.declared.events.Step.TheVariants.{Bump, Claim, PutPoint, AppendPoint}
use Rattle.cell_model.specs.declared.events.Entry.{Entry}
use Rattle.cell_model.specs.History.{entry_at}
use Rattle.cell_model.specs.Seen.{Seen, InEach}
use Rattle.cell_model.specs.Deeds.{Extends}
use Rattle.step_count.specs.CounterRule.{AreDifferent}
use Rattle.region_locks.specs.CallerViews.{MadeNoMore, numbers_of}

-- the step counts an id, claims a cell or writes a point; an opening, a read, a next row, a merge and a drop don't
abbrev pub brings_new : Step → Bool
brings_new (Bump kind) = true
brings_new (Claim row qual value) = true
brings_new (PutPoint point row qual value) = true
brings_new (AppendPoint point row piece) = true
brings_new other = false

-- in each lawful history that fits what was seen, this caller has brought nothing new up to the seen length
abbrev pub BroughtNothing : Seen → ℕ → Type 0
BroughtNothing s caller = InEach s (λ h. (place : ℕ) (e : Entry) → place ≤ s.length → e.caller ≡ caller → entry_at h place ≡ Some e → brings_new e.step ≡ false)

-- the same caller, later, has the place of so many callers that brought nothing new, each under its number, and none of them made an entry meanwhile
pub record TakesPlaces (old : Seen) (count : ℕ) (new : Seen) : Type 0 where
  pub later : Extends old new
  pub made : MadeNoMore old new
  pub caller : new.caller ≡ old.caller
  pub behind : List ℕ
  pub numbers : numbers_of new ≡ numbers_of old ++ behind
  pub callers : List ℕ
  pub count_is : length callers ≡ count
  pub different : AreDifferent callers
  pub among : (number : ℕ) → Contains callers number → Contains behind number
  pub nothing_new : (number : ℕ) → Contains callers number → BroughtNothing new number
