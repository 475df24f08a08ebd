use Rattle.std.proofs.Common.{arith, ◌<◌, ◌∙◌, length, ap, sym, refl}
use Rattle.qual_codec.specs.declared.cells.Cell.{Cell}
use Rattle.cell_blocks.specs.Packed.{span_at}
use Rattle.cell_blocks.proofs.Spans.{IsAt, count, version_told, cell_is}
use Rattle.cell_blocks.proofs.mixed_cells.MixedCells.version.Goals as goal

pub returns : goal.returns
returns c d =
    let in_range : c.args.i < length c.self.inside.heads.items = omega (arith, c.requires, ap length c.self.view_is, count c.self.inside.bytes.items c.self.inside.longs.items c.self.inside.heads.items) in
    let at : IsAt c.self.inside.bytes.items c.self.inside.longs.items c.self.inside.heads.items c.args.i c.index.result.now (span_at c.self.inside.longs.items c.index.result.now) = record { kept = c.self.invariant; in_range = in_range; head = c.index.ensures; span = refl } in
    version_told c.self.inside.longs.items c.index.result.now ∙ sym (rw (← c.self.view_is) (ap (λ (x : Cell). x.version) (cell_is c.self.inside.bytes.items c.self.inside.longs.items c.self.inside.heads.items c.args.i c.index.result.now (span_at c.self.inside.longs.items c.index.result.now) at d)))
