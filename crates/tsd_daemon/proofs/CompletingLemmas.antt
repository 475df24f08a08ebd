-- A connection whose devices don't fail ends by itself, and is answered whole.
use Rattle.std.proofs.Common.{◌≡◌, ◌^◌, ◌<◌, ℕ, List, refl, arith}
use Rattle.std.specs.Prelude.{◌≢◌, length}
use Rattle.cell_model.specs.History.{History}
use Rattle.point_put.specs.Admissions.{Admission}
use Rattle.tsd_daemon.specs.declared.served.Served.{Served}
use Rattle.tsd_daemon.specs.declared.served.Served.TheVariants as answer
use Rattle.tsd_daemon.specs.ServedConns.{ConnCauses, ConnFaults, Fills, IsServed}
use Rattle.tsd_daemon.specs.ConnCompletes.{ConnCompletes, EndsByItself, IsAnsweredWhole, NoneRose}

too_long : (n : ℕ) → n ≡ 2 ^ 40 → n < 2 ^ 40 → ⊥
too_long n is short = omega arith

module _ (before after : ConnFaults) (none : NoneRose before after) where
  ends : (result : Served) (n : ℕ) → Fills result n → ConnCauses before after result → n < 2 ^ 40 → result ≢ answer.OutOfMemory → EndsByItself result
  ends answer.End n fills causes short enough = tt
  ends answer.Exit n fills causes short enough = tt
  ends answer.Die n fills causes short enough = tt
  ends answer.Closed n fills causes short enough = tt
  ends answer.ReadFault n fills causes short enough = none.source causes.cause
  ends answer.WriteFault n fills causes short enough = none.sink causes.cause
  ends answer.Stopped n fills causes short enough = none.rows causes.cause
  ends answer.ClockFault n fills causes short enough = none.clock causes.cause
  ends answer.SessionFull n fills causes short enough = too_long n fills short
  ends answer.OutOfMemory n fills causes short enough = enough refl

answered_whole : (c : Admission) (h : History) (caller n n2 : ℕ) (input output times : List ℕ) (result : Served) → EndsByItself result → IsServed c h caller n n2 input output times result → IsAnsweredWhole c h caller n n2 input output times
answered_whole c h caller n n2 input output times answer.End e s = record { done = s.done; last = s.last; in_range = s.in_range; ran = s.ran; all = s.table.all }
answered_whole c h caller n n2 input output times answer.Exit e s = record { done = s.done; last = s.last; in_range = s.in_range; ran = s.ran; all = s.table.all }
answered_whole c h caller n n2 input output times answer.Die e s = record { done = s.done; last = s.last; in_range = s.in_range; ran = s.ran; all = s.table.all }
answered_whole c h caller n n2 input output times answer.Closed e s = record { done = s.done; last = s.last; in_range = s.in_range; ran = s.ran; all = s.table.all }
answered_whole c h caller n n2 input output times answer.ReadFault e s = absurd e
answered_whole c h caller n n2 input output times answer.WriteFault e s = absurd e
answered_whole c h caller n n2 input output times answer.Stopped e s = absurd e
answered_whole c h caller n n2 input output times answer.ClockFault e s = absurd e
answered_whole c h caller n n2 input output times answer.SessionFull e s = absurd e
answered_whole c h caller n n2 input output times answer.OutOfMemory e s = absurd e

pub conn_completes : ConnCompletes
conn_completes c old new input output times before after result s fills causes none short enough =
    let by = ends before after none result (length input) fills causes short enough in
    (by, λ h l f. answered_whole c h old.caller old.length new.length input output times result by (s.served h l f))
