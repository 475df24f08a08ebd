use Rattle.std.proofs.Common.{◌+◌, ◌-◌, ◌^◌, ◌≤◌, length}
use Rattle.cell_listing.proofs.ListingTurns.{HasRead}
use Rattle.cell_listing.proofs.listing_reader.read_listing.Given as goal

abbrev pub invariant-loop-listed : goal.invariant-loop-listed
invariant-loop-listed g l =
    let s = g.S.Source in
    record {
      read : HasRead l.fn.widths (s.taken l.fn.source) (s.taken l.source) (s.left l.fn.source) (s.left l.source) l.listed l.reader;
      most : l.reader.taken ≤ 2 ^ 40;
      later : s.faults l.fn.source ≤ s.faults l.source;
    }

abbrev pub decreases-loop-listed : goal.decreases-loop-listed
decreases-loop-listed g l = 2 ^ 40 + length l.reader.bytes - l.reader.taken
