use Rattle.std.proofs.Common.{◌≤◌, length}
use Rattle.put_bodies.specs.TextScans.{lexemes}
use Rattle.put_bodies.proofs.PairTurns.{PairsSoFar}
use Rattle.put_bodies.proofs.element_scan.next_tags.Given as goal

abbrev pub invariant-turns : goal.invariant-turns
invariant-turns l = record {
  so_far : PairsSoFar (lexemes l.initial.rest) (lexemes l.rest) l.worded l.words.items;
  shorter : length l.rest ≤ length l.initial.rest;
}

abbrev pub decreases-turns : goal.decreases-turns
decreases-turns l = length l.rest
