-- What is served to one connection over an empty store that nobody else steps.
use Rattle.std.specs.Prelude.{◌≡◌, ℕ, ◌<◌, ◌≤◌, List, [], ◌++◌, length, Option, None, Some}
use Rattle.row_key.specs.declared.widths.Widths.{Widths}
use Rattle.cell_model.specs.declared.events.Entry.{Entry}
use Rattle.cell_model.specs.Store.{no_cells}
use Rattle.cell_model.specs.History.{History, base_of, len, entry_at}
use Rattle.cell_model.specs.Lawful.{IsLawful}
use Rattle.cell_solo.specs.Turns.{opening}
use Rattle.point_put.specs.Admissions.{Admission}
use Rattle.tsd_daemon.specs.declared.served.Served.{Served}
use Rattle.tsd_daemon.specs.ServedConns.{IsServed, Fills}
use Rattle.point_feed.specs.FedEntries.{fed}
use Rattle.stdio_job.specs.Publications.{Tells, published}

-- There is a lawful history over the empty store of these widths in which caller 1 opened at place 1 and all that follows is its own, and in it the
-- connection was served from length 1 to the end.
pub record IsServedAlone (w : Widths) (c : Admission) (input output times : List ℕ) (result : Served) : Type 0 where
  pub history : History
  pub lawful : IsLawful history
  pub base : base_of history ≡ no_cells w
  pub opened : entry_at history 1 ≡ Some (opening 1)
  pub only : (place : ℕ) (e : Entry) → 1 < place → place ≤ len history → entry_at history place ≡ Some e → e.caller ≡ 1
  pub served : IsServed c history 1 1 (len history) input output times result

-- What is given behind the replies: with a prefix the points of the history are published whose metric begins with it, and without one nothing is.
abbrev pub TellsBehind : Option (List ℕ) → Served → Served → History → List ℕ → Type 0
TellsBehind None ended result h given = (result ≡ ended) × (given ≡ [])
TellsBehind (Some prefix) ended result h given = Tells ended result (published (fed h 1 1 (len h) prefix)) given

-- A connection was served so, its replies were given, and what is published behind them.
pub record ServesAlone (w : Widths) (c : Admission) (publish : Option (List ℕ)) (result : Served) (input output times : List ℕ) : Type 0 where
  pub replies : List ℕ
  pub given : List ℕ
  pub output_is : output ≡ replies ++ given
  pub ended : Served
  pub alone : IsServedAlone w c input replies times ended
  pub fills : Fills result (length input)
  pub behind : TellsBehind publish ended result alone.history given
