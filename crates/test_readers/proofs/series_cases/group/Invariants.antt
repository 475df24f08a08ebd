use Rattle.std.proofs.Common.{◌<◌, ◌^◌, All}
use Rattle.test_readers.proofs.series_cases.group.Given as goal

abbrev pub invariant-loop-part : goal.invariant-loop-part
invariant-loop-part l = All (λ series. All (λ dot. dot.0 < 2 ^ 43) series) l.group.items
