use Rattle.std.proofs.Common.{◌≤◌, length}
use Rattle.put_bodies.specs.TextScans.{lexemes}
use Rattle.put_bodies.proofs.MemberTurns.{MembersSoFar}
use Rattle.put_bodies.proofs.element_scan.next_members.Given as goal

abbrev pub invariant-turns : goal.invariant-turns
invariant-turns l = record {
  so_far : MembersSoFar (lexemes l.initial.rest) (lexemes l.rest) (record { metric = l.parts.0; time = l.parts.1.0; value = l.parts.1.1.0; tags = l.parts.1.1.1.0 }) l.words.items;
  shorter : length l.rest ≤ length l.initial.rest;
}

abbrev pub decreases-turns : goal.decreases-turns
decreases-turns l = length l.rest
