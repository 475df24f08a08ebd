use Rattle.std.proofs.Common.{◌+◌, ◌-◌, ◌<◌, ◌≤◌, length}
use Rattle.cell_blocks.specs.Seeks.{Rises, AllBefore, AllBehind}
use Rattle.cell_blocks.proofs.seeks.search.Given as goal

abbrev pub invariant-loop-low : goal.invariant-loop-low
invariant-loop-low l = record { order : l.low ≤ l.high; within : l.high ≤ length l.cells; some_step : 1 ≤ l.step; stays : l.low < l.high → l.low + l.step ≤ l.high; before : AllBefore l.qual l.cells l.low; behind : AllBehind l.qual l.cells l.high; rises : Rises l.cells }

abbrev pub decreases-loop-low : goal.decreases-loop-low
decreases-loop-low l = l.high - l.low
