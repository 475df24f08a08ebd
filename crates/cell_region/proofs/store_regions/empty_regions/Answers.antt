use Rattle.std.proofs.Common.{◌≡◌, ◌+◌, List, [], ap, ◌∙◌, subst, sym, length, map, arith, length-append, ◌∷◌}
use Rattle.std.specs.List.{flat_map}
use Rattle.cell_model.specs.Store.{Store, entries}
use Rattle.cell_laws.specs.StoreParts.{is_in}
use Rattle.cell_region.specs.declared.region.Region.{Region}
use Rattle.cell_region.specs.RegionLists.{cells_in, InOrder}
use Rattle.cell_region.proofs.RegionSteps.{none_push, order_push}
use Rattle.cell_region.proofs.store_regions.empty_regions.Goals as goal

pub loop-number-preserved : goal.loop-number-preserved
loop-number-preserved c =
    let longer = c.in_ok-push.ensures.items in
    let place : c.loop-number.number ≡ 0 + length c.loop-number.regions.items = omega (arith, c.loop-number.invariant.count) in
    let more = length-append c.loop-number.regions.items (c.empty.result ∷ []) in
    let same = ap length longer in
    let count = c.loop-number.invariant.count in
    record {
      order = subst (InOrder c.args.widths c.args.data_regions 0) (sym longer) (order_push c.args.widths c.args.data_regions 0 c.loop-number.regions.items c.empty.result c.loop-number.invariant.order (c.empty.ensures.rows ∙ ap (is_in c.args.widths c.args.data_regions) place) (ap (λ (s : Store). s.widths) c.empty.ensures.cells));
      count = omega (arith, same, more, count);
      none = ap (λ (rs : List Region). flat_map entries (map cells_in rs)) longer ∙ none_push c.args.widths c.loop-number.regions.items c.empty.result c.loop-number.invariant.none c.empty.ensures.cells;
    }
