use Rattle.std.proofs.Common.{◌∙◌, ◌∷◌, ◌+◌, sym, ap, drop}
use Rattle.std.proofs.lemmas.List.{drop_more}
use Rattle.http_series.specs.SeriesTexts.{pairs_of}
use Rattle.http_series.proofs.FaultLemmas.{pair_more}
use Rattle.http_series.proofs.one_value.pairs_of.Goals as goal

pub loop-filter-preserved : goal.loop-filter-preserved
loop-filter-preserved c =
    let l = c.loop-filter in
    pair_more l.pairs.items c.push.new.self.items (drop l.filter-index c.args.filters.now) (drop (l.filter-index + 1) c.args.filters.now) c.filter-item.result c.in_ok-pair.pair (pairs_of c.args.filters.now)
    (drop_more c.args.filters.now l.filter-index c.filter-item.result c.loop-filter-test.true ∙ ap (λ f. f ∷ drop (l.filter-index + 1) c.args.filters.now) (sym c.filter-item.is)) c.in_ok-pair.ensures c.in_ok-push.ensures.items l.invariant
