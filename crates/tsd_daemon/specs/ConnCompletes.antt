-- How a connection ends whose devices don't fail.
use Rattle.std.specs.Prelude.{◌≢◌, ℕ, ◌^◌, ◌<◌, ◌≤◌, List, length}
use Rattle.tsd_io.specs.Causes.{Rose}
use Rattle.cell_model.specs.Deeds.{deeds}
use Rattle.cell_model.specs.History.{History}
use Rattle.cell_model.specs.Seen.{Seen, InEach}
use Rattle.point_put.specs.Admissions.{Admission}
use Rattle.tsd_daemon.specs.declared.served.Served.{Served}
use Rattle.tsd_daemon.specs.declared.served.Served.TheVariants as answer
use Rattle.tsd_daemon.specs.Exchanges.{Exchange, Ran}
use Rattle.tsd_daemon.specs.ServedConns.{AllAnswered, ConnCauses, ConnFaults, Fills, Serves}

-- its input ended, or a request ended it
abbrev pub EndsByItself : Served → Type 0
EndsByItself answer.End = Unit {0}
EndsByItself answer.Exit = Unit {0}
EndsByItself answer.Die = Unit {0}
EndsByItself answer.Closed = Unit {0}
EndsByItself other = ⊥

-- each request of the input was worked in turn, all replies were given, and the caller did nothing else
pub record IsAnsweredWhole (c : Admission) (h : History) (caller n n2 : ℕ) (input output times : List ℕ) : Type 0 where
  pub done : List Exchange
  pub last : ℕ
  pub in_range : last ≤ n2
  pub ran : Ran c h caller n done last
  pub all : AllAnswered done input output times (deeds h caller last n2)

-- none of the counts rose
pub record NoneRose (before after : ConnFaults) : Type 0 where
  pub source : Rose before.reads after.reads → ⊥
  pub sink : Rose before.writes after.writes → ⊥
  pub rows : Rose before.stops after.stops → ⊥
  pub clock : Rose before.ticks after.ticks → ⊥

-- A connection whose devices don't fail and whose input is short, where memory sufficed, was answered whole and ended by itself.
abbrev pub ConnCompletes : Type 0
ConnCompletes = (c : Admission) (old new : Seen) (input output times : List ℕ) (before after : ConnFaults) (result : Served)
    → Serves c old input output times result new → Fills result (length input) → ConnCauses before after result
    → NoneRose before after → length input < 2 ^ 40 → result ≢ answer.OutOfMemory
    → EndsByItself result × InEach new (λ h. IsAnsweredWhole c h old.caller old.length new.length input output times)
