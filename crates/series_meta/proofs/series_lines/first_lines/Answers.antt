use Rattle.std.proofs.Common.{rules}
use Rattle.std.specs.Ordering.{is_lt}
use Rattle.std.proofs.lemmas.List.MinMax.{ranks_by}
use Rattle.std.proofs.lemmas.List.Sorted.{answers_always}
use Rattle.tsd_base.specs.TagList.{tags_cmp}
use Rattle.tsd_base.specs.TagOrder.{tags_cmp_total}
use Rattle.series_meta.specs.declared.meta_answers.Line.{Line}
use Rattle.series_meta.proofs.series_lines.first_lines.Goals as goal

pub returns : goal.returns
returns c =
    let answers = answers_always _ _ _ (λ f a r next called. search rules) in
    let up = c.in_ok-sort_by.ensures.sorted (λ (s t : Line). is_lt (tags_cmp s.tags t.tags)) (ranks_by tags_cmp_total (λ (s : Line). s.tags)) answers in
    record { sorted = c.sort_by.new.self.items; permuted = c.sort_by.ensures.permutation; in_order = up; lines_are = search rules }
