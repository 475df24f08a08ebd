use Rattle.std.proofs.Common.{sym, ap, subst, arith}
use Rattle.std.specs.Prelude.{IfErr, Some}
use Rattle.row_key.proofs.CallerLemmas.{has_three}
use Rattle.row_key.specs.declared.widths.Widths.{Widths}
use Rattle.cell_solo.specs.Turns.{sight}
use Rattle.lone_store.specs.LoneStores.{IsFresh}
use Rattle.batch_run.specs.RunFaults.{RunCause}
use Rattle.batch_job.proofs.CallerLemmas.{naming_begins}
use Rattle.batch_run.proofs.RunLemmas.{halt_cause, no_memory}
use Rattle.batch_run.proofs.printing.run_open.Goals as goal

pub over_store-printed-requires-clause-naming : goal.over_store-printed-requires-clause-naming
over_store-printed-requires-clause-naming g c = naming_begins _ (subst (λ (w : Widths). IsFresh w (sight c.in-Ok.store.rows.rows)) (has_three c.three.result c.three.ensures) c.in-Ok.ensures.fresh)

pub returns-in-Ok-clause-grows : goal.returns-in-Ok-clause-grows
returns-in-Ok-clause-grows g c =
    let made = ap g.H.Halt.stops c.in-Ok.ensures.halt in
    let left = ap g.H.Halt.stops c.halt_of-halt.ensures in
    let grows = c.over_store-printed.ensures.grows in
    omega (arith, made, left, grows)

pub returns-in-Ok-clause-cause : goal.returns-in-Ok-clause-cause
returns-in-Ok-clause-cause g c =
    let s = g.S.Source in
    let h = g.H.Halt in
    let f = s.faults c.args.input.now in
    let e = s.faults c.over_store-printed.new.input in
    subst (λ x. IfErr c.over_store-printed.result (RunCause f e (h.stops x) (h.stops c.halt_of-halt.result))) c.in-Ok.ensures.halt
    (subst (λ x. IfErr c.over_store-printed.result (RunCause f e (h.stops c.in-Ok.store.rows.halt) (h.stops x))) (sym c.halt_of-halt.ensures)
    (halt_cause f e (h.stops c.in-Ok.store.rows.halt) (h.stops c.over_store-printed.new.store.rows.halt) c.over_store-printed.result c.over_store-printed.ensures.cause))

pub returns-in-Err-clause-works : goal.returns-in-Err-clause-works
returns-in-Err-clause-works g c = λ batch q.
    let s = g.S.Source in
    no_memory (s.taken c.args.input.now) (s.left c.args.input.now) (Some batch)
