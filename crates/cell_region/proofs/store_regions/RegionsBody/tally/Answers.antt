use Rattle.std.proofs.Common.{◌≤◌, ◌+◌, ◌∷◌, [], length, refl, ap, ◌∙◌, sym, subst, arith}
use Rattle.tsd_base.specs.declared.kinds.Kind.TheVariants.{Metric, TagKey, TagValue}
use Rattle.list_lemmas.proofs.ListCuts.{take_whole}
use Rattle.row_key.specs.declared.widths.Widths.{Widths}
use Rattle.cell_model.specs.Sound.{IsCounter}
use Rattle.cell_model.specs.Store.{value_at}
use Rattle.cell_model.specs.Machine.{counter_row}
use Rattle.cell_model.specs.Counts.{counters_of, point_entries, point_rows}
use Rattle.cell_laws.specs.StoreParts.{is_in}
use Rattle.cell_laws.proofs.PartLemmas.{counter-part, value-part}
use Rattle.cell_region.specs.declared.region.Region.{Region}
use Rattle.cell_region.specs.declared.region.TheConstants.{MOST_CELLS}
use Rattle.cell_region.specs.RegionLists.{cells_in, store_of_all}
use Rattle.cell_region.proofs.RegionSteps.{part_here, widths_here}
use Rattle.cell_region.proofs.RegionSums.{cells_among, cells_of_all, rows_among, rows_few, rows_of_all, sum_next}
use Rattle.cell_region.proofs.store_regions.RegionsBody.tally.Goals as goal

pub overflow_add-point_rows : goal.overflow_add-point_rows
overflow_add-point_rows c =
    let all = c.self.invariant.all in let most = c.self.invariant.most in let items = ap length c.deref-region-items.ensures.value in let under = c.loop-region-test.true in
    let own : c.tally-own.result.point_rows ≤ MOST_CELLS = omega (arith, c.tally-own.ensures.rows, rows_few c.region-item.result) in
    let few = c.loop-region.invariant.few_rows in
    omega (arith, all, most, items, under, own, few)

pub overflow_add-point_cells : goal.overflow_add-point_cells
overflow_add-point_cells c =
    let all = c.self.invariant.all in let most = c.self.invariant.most in let items = ap length c.deref-region-items.ensures.value in let under = c.loop-region-test.true in
    let own : c.tally-own.result.point_cells ≤ MOST_CELLS = omega (arith, c.tally-own.ensures.cells, c.region-item.result.few) in
    let few = c.loop-region.invariant.few_cells in
    omega (arith, all, most, items, under, own, few)

pub loop-region-preserved : goal.loop-region-preserved
loop-region-preserved c =
    let rows_own : c.tally-own.result.point_rows ≤ MOST_CELLS = omega (arith, c.tally-own.ensures.rows, rows_few c.region-item.result) in
    let cells_own : c.tally-own.result.point_cells ≤ MOST_CELLS = omega (arith, c.tally-own.ensures.cells, c.region-item.result.few) in
    let rows_before = c.loop-region.invariant.few_rows in
    let cells_before = c.loop-region.invariant.few_cells in
    record {
      rows =
          (λ i. c.loop-region.invariant.rows i + (c.tally-own.ensures.rows ∙ ap (λ (r : Region). length (point_rows (cells_in r))) c.region-item.is) i)
          ∙ sym (sum_next (λ (r : Region). length (point_rows (cells_in r))) c.deref-region-items.result.now c.loop-region.region-index c.region-item.result c.loop-region-test.true);
      cells =
          (λ i. c.loop-region.invariant.cells i + (c.tally-own.ensures.cells ∙ ap (λ (r : Region). length (point_entries (cells_in r))) c.region-item.is) i)
          ∙ sym (sum_next (λ (r : Region). length (point_entries (cells_in r))) c.deref-region-items.result.now c.loop-region.region-index c.region-item.result c.loop-region-test.true);
      few_rows = omega (arith, rows_own, rows_before);
      few_cells = omega (arith, cells_own, cells_before);
    }

pub returns-clause-counters : goal.returns-clause-counters
returns-clause-counters c =
    rw (← c.self.view_is)
    (λ qual value is. subst (λ (w : Widths). IsCounter w qual value) (widths_here c.self.inside.widths c.self.inside.data_regions c.self.inside.regions.items c.self.invariant 0 c.index-counters.result.now (omega arith) c.index-counters.ensures)
    (c.tally-counted.ensures.counters qual value (ap (λ s. value_at s counter_row qual) (part_here c.self.inside.widths c.self.inside.data_regions c.self.inside.regions.items c.self.invariant 0 c.index-counters.result.now (omega arith) c.index-counters.ensures) ∙ value-part (is_in c.self.inside.widths c.self.inside.data_regions 0) (store_of_all c.self.inside.widths c.self.inside.regions.items) counter_row qual refl ∙ is)))

pub returns-clause-ids : goal.returns-clause-ids
returns-clause-ids c =
    rw (← c.self.view_is)
    (c.tally-counted.ensures.ids ∙ ap counters_of (part_here c.self.inside.widths c.self.inside.data_regions c.self.inside.regions.items c.self.invariant 0 c.index-counters.result.now (omega arith) c.index-counters.ensures)
    ∙ (λ i. counter-part (is_in c.self.inside.widths c.self.inside.data_regions 0) (store_of_all c.self.inside.widths c.self.inside.regions.items) Metric refl i ∷ counter-part (is_in c.self.inside.widths c.self.inside.data_regions 0) (store_of_all c.self.inside.widths c.self.inside.regions.items) TagKey refl i ∷ counter-part (is_in c.self.inside.widths c.self.inside.data_regions 0) (store_of_all c.self.inside.widths c.self.inside.regions.items) TagValue refl i ∷ []))

pub returns-clause-rows : goal.returns-clause-rows
returns-clause-rows c = rw (← c.self.view_is) (c.loop-region.invariant.rows ∙ ap rows_among (take_whole c.deref-region-items.result.now c.loop-region.region-index c.loop-region-test.false ∙ c.deref-region-items.ensures.value) ∙ rows_of_all c.self.inside.widths c.self.inside.data_regions c.self.inside.regions.items c.self.invariant)

pub returns-clause-cells : goal.returns-clause-cells
returns-clause-cells c = rw (← c.self.view_is) (c.loop-region.invariant.cells ∙ ap cells_among (take_whole c.deref-region-items.result.now c.loop-region.region-index c.loop-region-test.false ∙ c.deref-region-items.ensures.value) ∙ cells_of_all c.self.inside.widths c.self.inside.data_regions c.self.inside.regions.items c.self.invariant)
