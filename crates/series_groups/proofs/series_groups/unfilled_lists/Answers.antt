use Rattle.std.proofs.Common.{map, sym, subst}
use Rattle.std.specs.Prelude.{IfSome, Option}
use Rattle.tsd_base.specs.declared.kinds.Down.{Down}
use Rattle.series_groups.specs.FilledSeries.{IsUnfilled}
use Rattle.series_groups.specs.QueryAnswers.{all_or_least, down_to}
use Rattle.series_groups.specs.KeptSeries.{KeepsEach, dots_kept}
use Rattle.series_groups.specs.SeriesGroups.{GivesLists, IsDown}
use Rattle.series_groups.proofs.Filling.{down_unfilled, gives_unfilled, is_unfilled, keeps_unfilled}
use Rattle.series_groups.proofs.series_groups.unfilled_lists.Goals as goal

pub apart-requires-clause-down : goal.apart-requires-clause-down
apart-requires-clause-down c =
    let q = c.args.query.now in
    subst (λ (h : Option Down). IfSome h (IsDown q.start q.end)) (sym c.unfilled.ensures) (down_unfilled c.args.how q.start q.end c.requires.down)

pub apart-requires-clause-unfilled : goal.apart-requires-clause-unfilled
apart-requires-clause-unfilled c = subst IsUnfilled (sym c.unfilled.ensures) (is_unfilled c.args.how)

pub apart-requires-clause-kept : goal.apart-requires-clause-kept
apart-requires-clause-kept c =
    let q = c.args.query.now in
    let of = c.requires.kept.0 in
    (of, subst (λ (h : Option Down). KeepsEach h q.start q.end of c.args.series.items) (sym c.unfilled.ensures) (keeps_unfilled c.args.how q.start q.end of c.args.series.items c.requires.kept.1))

pub returns : goal.returns
returns c = λ of keeps.
    let q = c.args.query.now in
    let series = c.args.series.items in
    let kept = subst (λ (h : Option Down). KeepsEach h q.start q.end of series) (sym c.unfilled.ensures) (keeps_unfilled c.args.how q.start q.end of series keeps) in
    gives_unfilled c.args.how q.start q.end c.requires.down c.requires.order c.requires.most of series keeps c.apart.result
    (subst (λ (h : Option Down). GivesLists c.apart.result series (all_or_least (map (down_to h q.start q.end) (dots_kept of series)))) c.unfilled.ensures (c.apart.ensures of kept))
