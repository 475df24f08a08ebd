use Rattle.std.proofs.Common.{ℕ, List, subst, refl, ap, length, arith}
use Rattle.std.specs.Vec.Iter.{into_iter_items}
use Rattle.cell_model.specs.Readings.{Named}
use Rattle.metric_scan.specs.RowNames.{known}
use Rattle.query_run.proofs.Titles.{titled_more}
use Rattle.query_run.proofs.series_tags.renamed.Goals as goal

pub loop-span-preserved : goal.loop-span-preserved
loop-span-preserved c =
    let steps = c.in-Some.ensures.steps in
    let w = titled_more (known c.args.names.now) c.args.list.items c.loop-span.yielded (into_iter_items c.loop-span.span-iterator) (into_iter_items c.next.new.self) c.in-Some.span c.loop-span.series.items c.push.new.self.items _ c.loop-span.invariant.whole steps.0 c.loop-span.invariant.titled (subst (λ (l : List (ℕ × ℕ)). Named (known c.args.names.now) l c.in_ok-tags.tags) c.as_slice.ensures.value c.in_ok-tags.ensures) refl c.in_ok-push.ensures.items in
    record { whole = w.0; titled = w.1; len = omega (arith, steps.1, ap length steps.0, c.loop-span.invariant.len) }
