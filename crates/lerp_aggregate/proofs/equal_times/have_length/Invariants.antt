use Rattle.std.proofs.Common.{◌≡◌, ◌≤◌, length}
use Rattle.std.specs.List.{AllWithin}
use Rattle.lerp_aggregate.proofs.equal_times.have_length.Given as goal

abbrev pub invariant-loop-dots : goal.invariant-loop-dots
invariant-loop-dots l = record {
  same : AllWithin (λ s. length s ≡ l.count) l.list 0 l.dots-index;
  within : l.dots-index ≤ length l.list;
}
