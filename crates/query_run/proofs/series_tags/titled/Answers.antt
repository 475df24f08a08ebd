use Rattle.std.proofs.Common.{rules}
use Rattle.std.specs.Ordering.{is_lt}
use Rattle.std.proofs.lemmas.List.MinMax.{ranks_by}
use Rattle.std.proofs.lemmas.List.Sorted.{answers_always}
use Rattle.tsd_base.specs.TagList.{tags_cmp}
use Rattle.tsd_base.specs.TagOrder.{tags_cmp_total}
use Rattle.series_groups.specs.declared.named_series.Series.{Series}
use Rattle.metric_scan.specs.RowNames.{known}
use Rattle.query_run.proofs.Titles.{pairs_of_each, titles_kept}
use Rattle.query_run.proofs.series_tags.titled.Goals as goal

pub renamed-requires-clause-one : goal.renamed-requires-clause-one
renamed-requires-clause-one c = c.requires.3.one

pub renamed-requires-clause-pairs : goal.renamed-requires-clause-pairs
renamed-requires-clause-pairs c = pairs_of_each c.requires.0 (known c.args.collected.names) c.requires.1 c.args.collected.spans c.in_ok-into_series.field-0.items c.requires.2 c.requires.3 c.in_ok-into_series.ensures.series

pub returns : goal.returns
returns c = λ how spans keeps can.
    let answers = answers_always _ _ _ (λ f a r next called. search rules) in
    let up = c.in_ok-sort_by.ensures.sorted (λ (s t : Series). is_lt (tags_cmp s.tags t.tags)) (ranks_by tags_cmp_total (λ (s : Series). s.tags)) answers in
    titles_kept how (known c.args.collected.names) spans c.args.collected.spans c.in_ok-into_series.field-0.items c.in_ok-series.series.items c.sort_by.new.self.items keeps can c.into_series.ensures.order c.in_ok-into_series.ensures.series c.in_ok-series.ensures c.sort_by.ensures.permutation up
