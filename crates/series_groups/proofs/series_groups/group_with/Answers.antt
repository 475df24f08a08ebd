use Rattle.std.proofs.Common.{List, ℕ, ℤ, length, All, sym, ap, subst, ◌∙◌}
use Rattle.lerp_aggregate.specs.Aggregation.{aggregated}
use Rattle.tsd_base.specs.declared.kinds.Down.{Down}
use Rattle.std.specs.Prelude.{Option}
use Rattle.series_groups.specs.FilledSeries.{AreOn, filled_to}
use Rattle.series_groups.specs.NamedSeries.{AreEarly}
use Rattle.series_groups.specs.KeptSeries.{KeepsEach, dots_kept}
use Rattle.series_groups.proofs.Lists.{HasWhole, has_whole, group_whole}
use Rattle.series_groups.proofs.Finishing.{each_early}
use Rattle.series_groups.proofs.series_groups.group_with.Goals as goal

pub unfilled_lists-requires-clause-kept : goal.unfilled_lists-requires-clause-kept
unfilled_lists-requires-clause-kept c =
    let q = c.args.query.now in
    (c.requires.kept.0, subst (λ (h : Option Down). KeepsEach h q.start q.end c.requires.kept.0 c.args.series.items) (sym c.down_of-how.ensures.down) c.requires.kept.1)

pub aggregate_with_fill-requires-clause-early : goal.aggregate_with_fill-requires-clause-early
aggregate_with_fill-requires-clause-early c =
    let q = c.args.query.now in
    let of = c.requires.kept.0 in
    let kept = subst (λ (h : Option Down). KeepsEach h q.start q.end of c.args.series.items) (sym c.down_of-how.ensures.down) c.requires.kept.1 in
    subst (All AreEarly) (sym c.deref.ensures.value) (c.in_ok-tags.ensures of kept).early

pub aggregate_with_fill-requires-clause-on : goal.aggregate_with_fill-requires-clause-on
aggregate_with_fill-requires-clause-on c =
    let q = c.args.query.now in
    let of = c.requires.kept.0 in
    let kept = subst (λ (h : Option Down). KeepsEach h q.start q.end of c.args.series.items) (sym c.down_of-how.ensures.down) c.requires.kept.1 in
    subst (λ (lists : List (List (ℕ × ℤ))). AreOn c.down_of-how.result q.start q.end lists) (sym c.deref.ensures.value) (c.in_ok-tags.ensures of kept).on

pub aggregate_with_fill-requires-clause-alone : goal.aggregate_with_fill-requires-clause-alone
aggregate_with_fill-requires-clause-alone c = λ none.
    let q = c.args.query.now in
    let of = c.requires.kept.0 in
    let kept = subst (λ (h : Option Down). KeepsEach h q.start q.end of c.args.series.items) (sym c.down_of-how.ensures.down) c.requires.kept.1 in
    ap length c.deref.ensures.value ∙ (c.in_ok-tags.ensures of kept).count ∙ c.requires.alone none

pub tagged-requires : goal.tagged-requires
tagged-requires c = λ seconds.
    let q = c.args.query.now in
    let s = c.args.sub.now in
    let of = c.requires.kept.0 in
    let kept = subst (λ (h : Option Down). KeepsEach h q.start q.end of c.args.series.items) (sym c.down_of-how.ensures.down) c.requires.kept.1 in
    let filled = filled_to c.down_of-how.result q.start q.end c.in_ok-tags.lists.items in
    group_whole c.down_of-how.result q.start q.end c.down_of-how.ensures.is c.requires.works.order c.requires.works.most (dots_kept of c.args.series.items) (each_early c.down_of-how.result q.start q.end of c.args.series.items c.requires.works.most kept) filled (c.in_ok-tags.ensures of kept).are
    (subst HasWhole (sym c.down_of-how.ensures.down) (has_whole q s seconds c.requires.works.down)) s.how c.in-Ok.dps
    (ap (λ (lists : List (List (ℕ × ℤ))). aggregated s.how (filled_to c.down_of-how.result q.start q.end lists)) (sym c.deref.ensures.value) ∙ c.in-Ok.ensures)
