-- Histories of three callers, whose steps a script has woven.
use Rattle.std.specs.Prelude.{◌≡◌, ℕ, ◌+◌, ◌≤◌, Bool, true, false, if◌then◌else◌}
use Rattle.row_key.specs.Made.{three}
use Rattle.cell_model.specs.declared.events.Step.{Step}
use Rattle.cell_model.specs.declared.events.Step.TheVariants.{PutPoint}
use Rattle.cell_model.specs.declared.events.Entry.{Entry}
use Rattle.cell_model.specs.Store.{Store, no_cells}
use Rattle.cell_model.specs.History.{History, store_after}
use Rattle.cell_model.specs.History.History.{Base, Then}
use Rattle.cell_model.specs.Lawful.{IsLawful}
use Rattle.cell_solo.specs.Turns.{opened}

-- the step puts a point
abbrev pub is_put : Step → Bool
is_put (PutPoint point row qual value) = true
is_put _ = false

-- how many entries put a point
abbrev pub puts_in : History → ℕ
puts_in (Base base) = 0
puts_in (Then h e) = if is_put e.step then puts_in h + 1 else puts_in h

-- the later history is the earlier one, and then entries of callers from this one on, up to 3
pub data IsLater (least : ℕ) (earlier : History) : History → Type 0 where
  same : IsLater least earlier earlier
  more : {h : History} {e : Entry} → IsLater least earlier h → least ≤ e.caller → e.caller ≤ 3 → IsLater least earlier (Then h e)

-- three callers have opened on an empty store whose ids have three bytes
abbrev pub begun : History
begun = opened (no_cells three) 3

-- a lawful history of these three alone
pub record IsOfThree (h : History) : Type 0 where
  pub lawful : IsLawful h
  pub later : IsLater 1 begun h

-- the store is the one after a history of the three, which puts so many points
pub record IsWoven (accepted : ℕ) (content : Store) : Type 0 where
  pub history : History
  pub of_three : IsOfThree history
  pub accepted_is : accepted ≡ puts_in history
  pub content_is : content ≡ store_after history
