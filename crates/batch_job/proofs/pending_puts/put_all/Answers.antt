use Rattle.std.proofs.Common.{◌∷◌, ◌∙◌, ℕ, ℤ, List, ap, arith, sym}
use Rattle.batch_job.specs.PendingSeries.{all_values}
use Rattle.batch_job.proofs.StoredPoints.{none_put, all_put, may_next, put_next}
use Rattle.batch_job.proofs.pending_puts.put_all.Goals as goal

pub loop-name-init : goal.loop-name-init
loop-name-init g c = record {
  puts = none_put (g.R.Rows.seen c.args.store.now.rows) (all_values c.args.series.entries) (all_values c.into_iter-name-iterator.result) (ap all_values c.into_iter-name-iterator.ensures.into_iter_gives.0) c.requires.by;
  grows = omega arith;
}

pub put_series-requires : goal.put_series-requires
put_series-requires g c = record {
  allows = c.requires.allows;
  may = may_next (g.R.Rows.seen c.args.store.now.rows) (g.R.Rows.seen c.loop-name.store.rows) (all_values c.args.series.entries) (all_values c.loop-name.name-iterator) (all_values c.next.new.self) (c.in-Some.name, c.into_values-values.result)
      (ap all_values c.in-Some.ensures.steps ∙ ap (λ (values : List (ℕ × ℤ)). (c.in-Some.name, values) ∷ all_values c.next.new.self) (sym c.into_values-values.ensures)) c.requires.may c.loop-name.invariant.puts;
}

pub loop-name-preserved : goal.loop-name-preserved
loop-name-preserved g c =
    let was = c.loop-name.invariant.grows in
    let now = c.in_ok-put_series.ensures.stops.grows in
    record {
      puts = put_next (g.R.Rows.seen c.args.store.now.rows) (g.R.Rows.seen c.loop-name.store.rows) (all_values c.args.series.entries) (all_values c.loop-name.name-iterator) (all_values c.next.new.self) (c.in-Some.name, c.into_values-values.result)
          (ap all_values c.in-Some.ensures.steps ∙ ap (λ (values : List (ℕ × ℤ)). (c.in-Some.name, values) ∷ all_values c.next.new.self) (sym c.into_values-values.ensures)) c.requires.may c.loop-name.invariant.puts (g.R.Rows.seen c.put_series.new.store.rows) c.in_ok-put_series.ensures.puts;
      grows = omega (arith, was, now);
    }

pub returns-clause-puts : goal.returns-clause-puts
returns-clause-puts g c = all_put (g.R.Rows.seen c.args.store.now.rows) (g.R.Rows.seen c.loop-name.store.rows) (all_values c.args.series.entries) (all_values c.loop-name.name-iterator) (ap all_values c.in-None.ensures.steps.0) c.loop-name.invariant.puts
