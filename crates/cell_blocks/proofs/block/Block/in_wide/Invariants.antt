use Rattle.std.proofs.Common.{◌≡◌, ◌≤◌, take, length}
use Rattle.cell_blocks.proofs.block.Block.in_wide.Given as goal

abbrev pub invariant-loop-i : goal.invariant-loop-i
invariant-loop-i l = record { within : l.i ≤ l.i-end; all : l.i-end ≡ length l.self; copied : l.made ≡ take l.i l.self }
