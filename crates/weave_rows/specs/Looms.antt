-- What is seen of a store of three callers, and what holds of it.
use Rattle.std.specs.Prelude.{◌≡◌, ℕ, ◌≤◌}
use Rattle.cell_model.specs.Seen.{IsPossible}
use Rattle.cell_solo.specs.Turns.{Play, history_of, sight}
use Rattle.weave_rows.specs.WovenHistories.{IsLater, begun, puts_in}

-- the turns of the callers, how many points they put, and for how many steps that take no memory there is room at least
pub record Loomed : Type 0 where
  pub play : Play
  pub accepted : ℕ
  pub room : ℕ

-- it becomes the turn of this caller
abbrev pub turned : ℕ → Loomed → Loomed
turned caller l = record l { play = record l.play { caller = caller } }

-- three callers began on an empty store, one of them has the turn, and the points that were put are counted
pub record IsLoom (l : Loomed) : Type 0 where
  pub callers : l.play.callers ≡ 3
  pub least : 1 ≤ l.play.caller
  pub most : l.play.caller ≤ 3
  pub later : IsLater 1 begun (history_of l.play)
  pub counted : l.accepted ≡ puts_in (history_of l.play)
  pub room : l.room ≤ l.play.room
  pub possible : IsPossible (sight l.play)
