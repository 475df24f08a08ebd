use Rattle.std.proofs.Common.{◌≡◌, ◌∙◌, ℕ, ℤ, List, ap, sym, subst}
use Rattle.lerp_aggregate.specs.Aggregation.{value_at}
use Rattle.tsd_base.specs.Dots.{IsRising}
use Rattle.batch_job.specs.LastValues.{last_at}
use Rattle.batch_job.specs.PendingPuts.{Adds, AreTimes, points_in}
use Rattle.batch_job.proofs.SettleLemmas.{settled_as_is}
use Rattle.batch_job.proofs.StoredPoints.{series_put, where_ok}
use Rattle.batch_job.proofs.ValueLemmas.{settled_all}
use Rattle.batch_job.proofs.pending_puts.put_series.Goals as goal

pub returns-then-is_rising-clause-puts : goal.returns-then-is_rising-clause-puts
returns-then-is_rising-clause-puts g c =
    let values = c.args.values.now in
    let old = g.R.Rows.seen c.args.store.now.rows in
    let new = g.R.Rows.seen c.put_dots.new.store.rows in
    let rising : IsRising values = subst IsRising c.list.ensures (c.is_rising.ensures c.if-is_rising.true) in
    where_ok c.put_dots.result
    (λ adds. series_put c.args.metric c.args.tags c.args.fine values values rising (settled_as_is values rising) old new
    (subst (λ (ds : List (ℕ × ℤ)). Adds old (points_in c.args.metric c.args.tags c.args.fine ds) new) c.list-then-is_rising.ensures adds))
    c.put_dots.ensures.adds

pub put_dots-requires-2-clause-times : goal.put_dots-requires-2-clause-times
put_dots-requires-2-clause-times g c =
    let settled : (time : ℕ) → value_at c.in-Ok.dots time ≡ last_at c.args.values.now time = λ time. c.in-Ok.ensures time ∙ ap (λ values. last_at values time) c.list-2.ensures in
    subst (λ (ds : List (ℕ × ℤ)). AreTimes c.args.fine ds) (sym c.list-3.ensures.list) (settled_all c.args.fine c.in-Ok.dots c.args.values.now c.list-3.ensures.rising settled c.requires.may.times)

pub returns-clause-puts : goal.returns-clause-puts
returns-clause-puts g c =
    let old = g.R.Rows.seen c.args.store.now.rows in
    let new = g.R.Rows.seen c.put_dots-2.new.store.rows in
    let settled : (time : ℕ) → value_at c.in-Ok.dots time ≡ last_at c.args.values.now time = λ time. c.in-Ok.ensures time ∙ ap (λ values. last_at values time) c.list-2.ensures in
    where_ok c.put_dots-2.result
    (λ adds. series_put c.args.metric c.args.tags c.args.fine c.in-Ok.dots c.args.values.now c.list-3.ensures.rising settled old new
    (subst (λ (ds : List (ℕ × ℤ)). Adds old (points_in c.args.metric c.args.tags c.args.fine ds) new) c.list-3.ensures.list adds))
    c.put_dots-2.ensures.adds
