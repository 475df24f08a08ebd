use Rattle.std.proofs.Common.{List, sym, subst}
use Rattle.std.specs.Prelude.{All}
use Rattle.batch_job.specs.Pending.{SeriesEntry, so_far}
use Rattle.batch_job.specs.PendingPuts.{MayPut, PutsAll}
use Rattle.batch_job.proofs.StoredPoints.{may_put, stored}
use Rattle.batch_job.proofs.answer.answer.Goals as goal

pub put_all-requires-clause-by : goal.put_all-requires-clause-by
put_all-requires-clause-by g c = c.requires.gathers.1.naming.by

pub put_all-requires-clause-may : goal.put_all-requires-clause-may
put_all-requires-clause-may g c =
    let seen = g.R.Rows.seen c.args.store.now.rows in
    subst (All (MayPut seen)) (sym c.into_series.ensures.values) (may_put c.requires.gathers.0 (so_far seen c.args.gathered) c.requires.gathers.1 c.into_series.ensures.found)

pub answer_from-requires-clause-stored : goal.answer_from-requires-clause-stored
answer_from-requires-clause-stored g c =
    let seen = g.R.Rows.seen c.args.store.now.rows in
    let after = g.R.Rows.seen c.put_all.new.store.rows in
    let puts = subst (λ (es : List SeriesEntry). PutsAll seen es after) c.into_series.ensures.values c.in_ok-put_all.ensures.puts in
    let points = c.requires.gathers.0 in
    (points, stored points (so_far seen c.args.gathered) c.requires.gathers.1 c.into_series.ensures.found after puts)

pub returns-clause-answers : goal.returns-clause-answers
returns-clause-answers g c = λ s points one h.
    let seen = g.R.Rows.seen c.args.store.now.rows in
    let after = g.R.Rows.seen c.put_all.new.store.rows in
    let puts = subst (λ (es : List SeriesEntry). PutsAll seen es after) c.into_series.ensures.values c.in_ok-put_all.ensures.puts in
    c.answer_from.ensures.answers s points one (stored points (so_far seen c.args.gathered) h c.into_series.ensures.found after puts)
