-- What a put with its queue says.
use Rattle.std.proofs.Common.{◌≡◌, ap, sym, subst, ◌∙◌}
use Rattle.std.specs.Prelude.{Result, Ok, Err, IfErr, IsErrAnd}
use Rattle.std.proofs.lemmas.Result.{err_from_is_err_and}
use Rattle.tsd_base.specs.Points.{DataPoint}
use Rattle.cell_model.specs.declared.answers.Stored.{Stored}
use Rattle.cell_model.specs.Seen.{Seen}
use Rattle.point_put.specs.Admissions.{Admission}
use Rattle.point_put.specs.declared.fault.PutFault.{PutFault}
use Rattle.point_put.specs.declared.fault.PutFault.TheVariants.{Unknown, Filtered, Exhausted, OutOfMemory, Stopped}
use Rattle.point_put.specs.PutPoint.{PutSays}
use Rattle.queued_put.specs.QueuedPuts.{FailsQueued}

fails : (c : Admission) (point : DataPoint) (old new : Seen) (fault : PutFault) → PutSays c point old (Err fault) new → FailsQueued c point old fault new
fails c point old new (Unknown kind name) says = says
fails c point old new (Filtered kind name) says = says
fails c point old new (Exhausted kind) says = says
fails c point old new OutOfMemory says = (Err OutOfMemory, says)
fails c point old new Stopped says = says

-- a fault that is handed on
handed : (P : PutFault → Type 0) (fault : PutFault) (r : Result (Unit {0}) PutFault) → IsErrAnd r (λ f. f ≡ fault) → P fault → IfErr r P
handed P fault r is p = let y = err_from_is_err_and r is in subst (λ (x : Result (Unit {0}) PutFault). IfErr x P) (sym (y.1 ∙ ap (λ f. Err f) y.2)) p

-- a fault of the put
pub put_failed : (c : Admission) (point : DataPoint) (old new : Seen) (fault : PutFault) (r : Result (Unit {0}) PutFault) → IsErrAnd r (λ f. f ≡ fault) → PutSays c point old (Err fault) new → IfErr r (λ f. FailsQueued c point old f new)
put_failed c point old new fault r is says = handed (λ f. FailsQueued c point old f new) fault r is (fails c point old new fault says)

-- no memory for the row
pub unqueued : (c : Admission) (point : DataPoint) (old new : Seen) (stored : Stored) (r : Result (Unit {0}) PutFault) → IsErrAnd r (λ f. f ≡ OutOfMemory) → PutSays c point old (Ok stored) new → IfErr r (λ f. FailsQueued c point old f new)
unqueued c point old new stored r is says = handed (λ f. FailsQueued c point old f new) OutOfMemory r is (Ok stored, says)
