use Rattle.std.proofs.Common.{◌≡◌, ◌-◌, length, sym, subst, ◌∙◌, rules, arith}
use Rattle.row_key.specs.declared.widths.Widths.{Widths}
use Rattle.row_key.specs.declared.regions.TheConstants.{NAME_REGIONS}
use Rattle.cell_region.specs.RegionLists.{AreComplete}
use Rattle.cell_region.proofs.RegionSteps.{counted_regions, have_parts, widths_here}
use Rattle.cell_region.proofs.store_regions.Regions.joined.Goals as goal

pub returns-clause-parts : goal.returns-clause-parts
returns-clause-parts c =
    let count : c.len.result ≡ length c.args.regions.items = search rules in
    let w = c.requires.complete.0 in
    let complete : AreComplete w (c.len.result - NAME_REGIONS) c.args.regions.items = counted_regions c.args.regions.items c.len.result c.requires.complete.1 w c.requires.complete.2 count in
    let widths : c.widths-widths.result ≡ w = c.widths-widths.ensures ∙ widths_here w (c.len.result - NAME_REGIONS) c.args.regions.items complete 0 c.index-counters.result.now (omega arith) c.index-counters.ensures in
    have_parts c.widths-widths.result (c.len.result - NAME_REGIONS) c.args.regions.items (subst (λ (x : Widths). AreComplete x (c.len.result - NAME_REGIONS) c.args.regions.items) (sym widths) complete)
