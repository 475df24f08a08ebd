use Rattle.std.proofs.Common.{◌≡◌, ℕ, ◌+◌, ◌-◌, drop, ap, ◌∙◌, arith}
use Rattle.std.specs.FinMap.{insert}
use Rattle.packed_cells.specs.Keyed.{CellMap, map_of}
use Rattle.packed_cells.proofs.Trees.{one_before}
use Rattle.packed_cells.proofs.tree_cells.TreeCells.of.Goals as goal

pub loop-left-preserved : goal.loop-left-preserved
loop-left-preserved c =
    let i = c.loop-left.left - 1 in
    let is : c.loop-left.left ≡ i + 1 = omega (arith, c.loop-left-test.true) in (
      omega (arith, c.loop-left.invariant.0),
      c.in_ok-put.ensures.ok
          ∙ ap (λ (m : CellMap). insert m c.qual.result.now (c.value.result.now, c.version.result)) (c.loop-left.invariant.1 ∙ ap (λ (n : ℕ). map_of (drop n c.args.cells.now)) is)
          ∙ one_before c.args.cells.now i c.version.result c.qual.result.now c.value.result.now (omega (arith, c.loop-left.invariant.0, c.loop-left-test.true)) c.qual.ensures c.value.ensures c.version.ensures,
    )
