use Rattle.std.proofs.Common.{arith, ◌<◌, length, ap, refl}
use Rattle.cell_blocks.specs.Packed.{span_at}
use Rattle.cell_blocks.proofs.Spans.{IsAt, count, restamp_kept, restamp_cells}
use Rattle.cell_blocks.proofs.mixed_cells.MixedCells.stamp.Goals as goal

pub invariant_of-self : goal.invariant_of-self
invariant_of-self c =
    let in_range : c.args.i < length c.self.inside.heads.items = omega (arith, c.requires, ap length c.self.view_is, count c.self.inside.bytes.items c.self.inside.longs.items c.self.inside.heads.items) in
    let at : IsAt c.self.inside.bytes.items c.self.inside.longs.items c.self.inside.heads.items c.args.i c.index-head.result.now (span_at c.self.inside.longs.items c.index-head.result.now) = record { kept = c.self.invariant; in_range = in_range; head = c.index-head.ensures; span = refl } in
    restamp_kept c.self.inside.bytes.items c.self.inside.longs.items c.self.inside.heads.items c.args.i c.index-head.result.now (span_at c.self.inside.longs.items c.index-head.result.now) at c.args.version

pub returns : goal.returns
returns c d =
    let in_range : c.args.i < length c.self.inside.heads.items = omega (arith, c.requires, ap length c.self.view_is, count c.self.inside.bytes.items c.self.inside.longs.items c.self.inside.heads.items) in
    let at : IsAt c.self.inside.bytes.items c.self.inside.longs.items c.self.inside.heads.items c.args.i c.index-head.result.now (span_at c.self.inside.longs.items c.index-head.result.now) = record { kept = c.self.invariant; in_range = in_range; head = c.index-head.ensures; span = refl } in
    rw (← c.self.view_is) (restamp_cells c.self.inside.bytes.items c.self.inside.longs.items c.self.inside.heads.items c.args.i c.index-head.result.now (span_at c.self.inside.longs.items c.index-head.result.now) at c.args.version d)
