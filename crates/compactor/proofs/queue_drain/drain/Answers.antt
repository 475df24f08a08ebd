use Rattle.std.proofs.Common.{◌+◌, Bool, Option, Ok, subst, sym, ◌∙◌}
use Rattle.std.proofs.lemmas.Result.{err_from_is_err_and}
use Rattle.cell_model.specs.Deeds.{MadeSo}
use Rattle.compactor.specs.Drains.{OneMade}
use Rattle.compactor.proofs.Draining.{Draining, as_number, drain_start, drain_next, drain_none, none_few, drain_broken, broken_few}
use Rattle.compactor.proofs.queue_drain.drain.Goals as goal

pub loop-done-init : goal.loop-done-init
loop-done-init g c = drain_start c.args.before (g.R.Rows.seen c.args.rows.now) (g.R.Rows.stops c.args.rows.now) c.args.queue.now

pub returns-in_err-conflict-clause-made : goal.returns-in_err-conflict-clause-made
returns-in_err-conflict-clause-made g c =
    let l = c.loop-done in
    let p = err_from_is_err_and c.from_residual.result c.from_residual.ensures.1 in
    rw (p.1, p.2)
    (drain_broken c.args.before (g.R.Rows.seen c.args.rows.now) (g.R.Rows.seen l.rows) (g.R.Rows.seen c.drain_one.new.rows) (g.R.Rows.stops c.args.rows.now) (g.R.Rows.stops l.rows) (g.R.Rows.stops c.drain_one.new.rows) c.args.queue.now l.queue c.drain_one.new.queue l.done
    l.conflicts l.invariant c.in_err-conflict.ensures.stops.grows c.args.max c.in_err-conflict.field-0.0 c.loop-done-test.true c.in_err-conflict.ensures.made)

pub returns-in_err-conflict-clause-few : goal.returns-in_err-conflict-clause-few
returns-in_err-conflict-clause-few g c =
    let l = c.loop-done in
    broken_few c.args.before (g.R.Rows.seen c.args.rows.now) (g.R.Rows.seen l.rows) (g.R.Rows.seen c.drain_one.new.rows) (g.R.Rows.stops c.args.rows.now) (g.R.Rows.stops l.rows) (g.R.Rows.stops c.drain_one.new.rows) c.args.queue.now l.queue c.drain_one.new.queue l.done
    l.conflicts l.invariant c.in_err-conflict.ensures.stops.grows c.args.max c.in_err-conflict.field-0.0 c.loop-done-test.true c.in_err-conflict.ensures.made

pub returns-in_default-clause-made : goal.returns-in_default-clause-made
returns-in_default-clause-made g c =
    let l = c.loop-done in
    drain_none c.args.before (g.R.Rows.seen c.args.rows.now) (g.R.Rows.seen l.rows) (g.R.Rows.seen c.drain_one.new.rows) (g.R.Rows.stops c.args.rows.now) (g.R.Rows.stops l.rows) (g.R.Rows.stops c.drain_one.new.rows) c.args.queue.now l.queue c.drain_one.new.queue l.done
    l.conflicts l.invariant c.in_ok-conflict.ensures.stops.grows c.args.max c.loop-done-test.true
    (subst (λ (o : Option Bool). MadeSo (g.R.Rows.seen l.rows) (OneMade c.args.before l.queue (Ok o) c.drain_one.new.queue) (g.R.Rows.seen c.drain_one.new.rows)) c.in_default.is c.in_ok-conflict.ensures.made)

pub returns-in_default-clause-few : goal.returns-in_default-clause-few
returns-in_default-clause-few g c =
    let l = c.loop-done in
    none_few c.args.before (g.R.Rows.seen c.args.rows.now) (g.R.Rows.seen l.rows) (g.R.Rows.seen c.drain_one.new.rows) (g.R.Rows.stops c.args.rows.now) (g.R.Rows.stops l.rows) (g.R.Rows.stops c.drain_one.new.rows) c.args.queue.now l.queue c.drain_one.new.queue l.done
    l.conflicts l.invariant c.in_ok-conflict.ensures.stops.grows c.args.max c.loop-done-test.true
    (subst (λ (o : Option Bool). MadeSo (g.R.Rows.seen l.rows) (OneMade c.args.before l.queue (Ok o) c.drain_one.new.queue) (g.R.Rows.seen c.drain_one.new.rows)) c.in_default.is c.in_ok-conflict.ensures.made)

pub loop-done-preserved : goal.loop-done-preserved
loop-done-preserved g c =
    let l = c.loop-done in
    subst (λ n. Draining c.args.before (g.R.Rows.seen c.args.rows.now) (g.R.Rows.seen c.drain_one.new.rows) (g.R.Rows.stops c.args.rows.now) (g.R.Rows.stops c.drain_one.new.rows) c.args.queue.now c.drain_one.new.queue (l.done + 1) (l.conflicts + n)) (sym (c.from-conflicts.ensures ∙ as_number c.in-Some.conflict))
    (drain_next c.args.before (g.R.Rows.seen c.args.rows.now) (g.R.Rows.seen l.rows) (g.R.Rows.seen c.drain_one.new.rows) (g.R.Rows.stops c.args.rows.now) (g.R.Rows.stops l.rows) (g.R.Rows.stops c.drain_one.new.rows) c.args.queue.now l.queue c.drain_one.new.queue l.done
    l.conflicts l.invariant c.in_ok-conflict.ensures.stops.grows c.in-Some.conflict
    (subst (λ (o : Option Bool). MadeSo (g.R.Rows.seen l.rows) (OneMade c.args.before l.queue (Ok o) c.drain_one.new.queue) (g.R.Rows.seen c.drain_one.new.rows)) c.in-Some.is c.in_ok-conflict.ensures.made))
