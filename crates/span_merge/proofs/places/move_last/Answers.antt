use Rattle.std.proofs.Common.{◌++◌, ◌∷◌, [], ap, ◌∙◌}
use Rattle.span_merge.proofs.places.move_last.Goals as goal

pub returns-in-Some-clause-ok : goal.returns-in-Some-clause-ok
returns-in-Some-clause-ok c =
    record {
      series = c.in-Some.series;
      was_last = c.in-Some.ensures.items;
      is_last = c.push_reserved.ensures.items ∙ ap (λ l. l ++ c.in-Some.series ∷ []) c.in_ok-reserve.ensures.items;
    }
