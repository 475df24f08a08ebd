use Rattle.std.proofs.Common.{arith, ◌≡◌, ◌<◌, ◌+◌, ◌-◌, ◌∙◌, length, take, drop, ap, sym}
use Rattle.qual_codec.specs.declared.cells.Cell.{Cell}
use Rattle.cell_blocks.proofs.Spans.{IsAt, count, span_fits, cell_is}
use Rattle.cell_blocks.proofs.mixed_cells.MixedCells.qual.Goals as goal

pub slice_bounds-result-end : goal.slice_bounds-result-end
slice_bounds-result-end c =
    let in_range : c.args.i < length c.self.inside.heads.items = omega (arith, c.requires, ap length c.self.view_is, count c.self.inside.bytes.items c.self.inside.longs.items c.self.inside.heads.items) in
    let at : IsAt c.self.inside.bytes.items c.self.inside.longs.items c.self.inside.heads.items c.args.i c.index.result.now c.spread-span.result = record { kept = c.self.invariant; in_range = in_range; head = c.index.ensures; span = c.spread-span.ensures } in
    let fits = span_fits c.self.inside.bytes.items c.self.inside.longs.items c.self.inside.heads.items c.args.i c.index.result.now c.spread-span.result at in
    omega (arith, fits, ap length c.deref.ensures.value)

pub returns : goal.returns
returns c d =
    let in_range : c.args.i < length c.self.inside.heads.items = omega (arith, c.requires, ap length c.self.view_is, count c.self.inside.bytes.items c.self.inside.longs.items c.self.inside.heads.items) in
    let at : IsAt c.self.inside.bytes.items c.self.inside.longs.items c.self.inside.heads.items c.args.i c.index.result.now c.spread-span.result = record { kept = c.self.invariant; in_range = in_range; head = c.index.ensures; span = c.spread-span.ensures } in
    let same : c.spread-span.result.at + c.spread-span.result.qual_len - c.spread-span.result.at ≡ c.spread-span.result.qual_len = omega arith in
    (λ j. take (same j) (drop c.spread-span.result.at (c.deref.ensures.value j))) ∙ sym (rw (← c.self.view_is) (ap (λ (x : Cell). x.qual) (cell_is c.self.inside.bytes.items c.self.inside.longs.items c.self.inside.heads.items c.args.i c.index.result.now c.spread-span.result at d)))
