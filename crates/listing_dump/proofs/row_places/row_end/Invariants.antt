use Rattle.std.proofs.Common.{◌<◌, ◌≤◌, ◌-◌, length}
use Rattle.listing_dump.proofs.Turns.{IsRowTo}
use Rattle.listing_dump.proofs.row_places.row_end.Given as goal

abbrev pub invariant-lines : goal.invariant-lines
invariant-lines l = record {
  later : l.from < l.end;
  within : l.end ≤ length l.cells;
  rows : IsRowTo l.cells l.from l.end;
}

abbrev pub decreases-lines : goal.decreases-lines
decreases-lines l = length l.cells - l.end
