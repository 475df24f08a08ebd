-- What a connection is served over any rows, and what is published behind it.
use Rattle.std.specs.Prelude.{◌≡◌, ℕ, List, ◌++◌, length}
use Rattle.cell_model.specs.Seen.{Seen, InEach}
use Rattle.point_put.specs.Admissions.{Admission}
use Rattle.tsd_daemon.specs.declared.served.Served.{Served}
use Rattle.tsd_daemon.specs.ServedConns.{Fills, Serves}
use Rattle.point_feed.specs.FedEntries.{fed}
use Rattle.stdio_job.specs.Publications.{Tells, published}

-- A connection was served: the replies were given, and then the points were published that the caller put or appended for it and whose metric begins with the prefix.
pub record PublishesBytes (c : Admission) (prefix : List ℕ) (old : Seen) (result : Served) (new : Seen) (input output times : List ℕ) : Type 0 where
  pub replies : List ℕ
  pub given : List ℕ
  pub output_is : output ≡ replies ++ given
  pub ended : Served
  pub serves : Serves c old input replies times ended new
  pub fills : Fills result (length input)
  pub tells : InEach new (λ h. Tells ended result (published (fed h old.caller old.length new.length prefix)) given)
