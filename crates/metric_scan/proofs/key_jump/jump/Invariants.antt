use Rattle.std.proofs.Common.{◌≡◌, false}
use Rattle.std.specs.Prelude.{IfSome, Contains}
use Rattle.metric_scan.specs.IdFilters.{passes_filter}
use Rattle.metric_scan.proofs.key_jump.jump.Given as goal

-- it is one of the filters, and the key fails it
abbrev pub invariant-loop-filter : goal.invariant-loop-filter
invariant-loop-filter l = IfSome l.first (λ f. Contains l.filters f.now × (passes_filter f.now l.key.pairs.items ≡ false))
