use Rattle.std.proofs.Common.{ap, subst, sym, ◌∙◌}
use Rattle.row_key.specs.declared.widths.Widths.{Widths}
use Rattle.cell_model.specs.Ranges.{InOneRange}
use Rattle.cell_model.specs.Store.{next_row_of}
use Rattle.cell_laws.specs.StoreParts.{is_in}
use Rattle.cell_laws.proofs.PartLemmas.{next-part}
use Rattle.cell_region.specs.DividedStore.{DividedStore}
use Rattle.cell_region.specs.RegionLists.{store_of_all}
use Rattle.cell_region.proofs.Answered.{answers}
use Rattle.cell_region.proofs.RegionSteps.{covered, part_here, widths_here, within_region}
use Rattle.cell_region.proofs.store_regions.RegionsBody.next_row.Goals as goal

pub next_row-requires-clause-range : goal.next_row-requires-clause-range
next_row-requires-clause-range c = subst (λ (w : Widths). InOneRange w c.args.table c.args.from.now c.args.to.now) (sym (widths_here c.self.inside.widths c.self.inside.data_regions c.self.inside.regions.items c.self.invariant c.number_of-number.result c.index-region.result.now c.number_of-number.ensures.among c.index-region.ensures)) (subst (λ (d : DividedStore). InOneRange d.content.widths c.args.table c.args.from.now c.args.to.now) (sym c.self.view_is) c.requires.range)

pub next_row-requires-clause-covered : goal.next_row-requires-clause-covered
next_row-requires-clause-covered c = λ row between. covered c.self.inside.widths c.self.inside.data_regions c.self.inside.regions.items c.self.invariant c.number_of-number.result c.index-region.result.now c.number_of-number.ensures.among c.index-region.ensures row (within_region c.self.inside.widths c.self.inside.data_regions c.number_of-number.result c.args.table c.args.from.now c.args.to.now c.list.result.now c.number_of-number.ensures.number c.list.ensures (subst (λ (d : DividedStore). InOneRange d.content.widths c.args.table c.args.from.now c.args.to.now) (sym c.self.view_is) c.requires.range) row between)

pub returns : goal.returns
returns c =
    rw (← c.self.view_is)
    (answers c.next_row.result (λ found. found) _ _
    (ap (λ s. next_row_of s c.args.table c.args.from.now c.args.to.now) (part_here c.self.inside.widths c.self.inside.data_regions c.self.inside.regions.items c.self.invariant c.number_of-number.result c.index-region.result.now c.number_of-number.ensures.among c.index-region.ensures)
    ∙ next-part (is_in c.self.inside.widths c.self.inside.data_regions c.number_of-number.result) (store_of_all c.self.inside.widths c.self.inside.regions.items) c.args.table c.args.from.now c.args.to.now (within_region c.self.inside.widths c.self.inside.data_regions c.number_of-number.result c.args.table c.args.from.now c.args.to.now c.list.result.now c.number_of-number.ensures.number c.list.ensures (subst (λ (d : DividedStore). InOneRange d.content.widths c.args.table c.args.from.now c.args.to.now) (sym c.self.view_is) c.requires.range)))
    c.next_row.ensures)
