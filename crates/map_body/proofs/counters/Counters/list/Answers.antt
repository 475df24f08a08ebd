use Rattle.std.proofs.Common.{◌++◌, map, sym, subst}
use Rattle.map_body.proofs.counters.Counters.list.Goals as goal
use Rattle.std.specs.FinMap.{entries}
use Rattle.packed_cells.specs.Keyed.{CellMap}
use Rattle.map_body.specs.Whole.{placed}
use Rattle.cell_model.specs.Counts.{line_of}
use Rattle.map_body.proofs.Counted.{lines_shown}
use Rattle.cell_model.specs.Machine.{counter_row}
use Rattle.map_body.proofs.Rise.{metric_rises, key_rises, value_rises}
use Rattle.cell_model.specs.Rising.{LinesRise}

pub add-requires : goal.add-requires
add-requires c = metric_rises c.self.inside.metric c.self.inside.tag_key c.self.inside.tag_value c.args.listing.now (subst (λ (m : CellMap). LinesRise (c.args.listing.now ++ map line_of (map (placed counter_row) (entries m)))) (sym c.self.view_is) c.requires)

pub add-requires-2 : goal.add-requires-2
add-requires-2 c =
    key_rises c.self.inside.metric c.self.inside.tag_key c.self.inside.tag_value c.args.listing.now (subst (λ (m : CellMap). LinesRise (c.args.listing.now ++ map line_of (map (placed counter_row) (entries m)))) (sym c.self.view_is) c.requires)
    c.add.new.listing c.in_ok-add.ensures

pub add-requires-3 : goal.add-requires-3
add-requires-3 c =
    value_rises c.self.inside.metric c.self.inside.tag_key c.self.inside.tag_value c.args.listing.now (subst (λ (m : CellMap). LinesRise (c.args.listing.now ++ map line_of (map (placed counter_row) (entries m)))) (sym c.self.view_is) c.requires)
    c.add.new.listing c.add-2.new.listing c.in_ok-add.ensures c.in_ok-add-2.ensures

pub returns : goal.returns
returns c =
    rw (← c.self.view_is)
    (lines_shown c.self.inside.metric c.self.inside.tag_key c.self.inside.tag_value c.args.listing.now c.add.new.listing c.add-2.new.listing c.add-3.new.listing c.in_ok-add.ensures c.in_ok-add-2.ensures c.in_ok-add-3.ensures)
