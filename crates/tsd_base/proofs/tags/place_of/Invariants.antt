use Rattle.std.proofs.Common.{◌≡◌, ◌≤◌, length, drop, Less, All}
use Rattle.list_lemmas.specs.BytesOrder.{bytes_cmp}
use Rattle.tsd_base.proofs.tags.place_of.Given as goal

abbrev pub invariant-loop-at : goal.invariant-loop-at
invariant-loop-at l =
    record { within : l.at ≤ length l.pairs; behind : All (λ p. bytes_cmp l.key p.0 ≡ Less) (drop l.at l.pairs) }

abbrev pub decreases-loop-at : goal.decreases-loop-at
decreases-loop-at l = l.at
