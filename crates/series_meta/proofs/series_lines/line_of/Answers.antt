use Rattle.std.proofs.Common.{◌≡◌, ℕ, List, ◌++◌, refl, ap, subst, ◌∙◌}
use Rattle.std.specs.List.{flat_map}
use Rattle.row_key.specs.Key.{id_bytes, pair_bytes}
use Rattle.cell_model.specs.Readings.{Named}
use Rattle.metric_scan.specs.Walks.{names_of}
use Rattle.series_meta.proofs.series_lines.line_of.Goals as goal

pub returns : goal.returns
returns c =
    let w = c.args.widths in
    let items : c.ids.inside.pairs.items ≡ c.args.ids = cc (c.ids.view_is) in
    let slice : c.as_slice.result.now ≡ c.args.ids = c.as_slice.ensures.value ∙ items in
    record {
      tags = subst (λ (l : List (ℕ × ℕ)). Named (names_of c.args.rows.now) l c.in_ok-tags.tags) slice c.in_ok-tags.ensures;
      series = c.in_ok-tsuid.ensures ∙ ap (λ (l : List (ℕ × ℕ)). id_bytes w.metric c.args.metric ++ flat_map (pair_bytes w) l) items;
      count_is = refl;
    }
