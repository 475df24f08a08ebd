use Rattle.std.proofs.Common.{◌≡◌, drop}
use Rattle.http_series.specs.ArgumentReading.{with_front}
use Rattle.http_series.specs.SeriesTexts.{pairs_of}
use Rattle.http_series.proofs.one_value.pairs_of.Given as goal

abbrev pub invariant-loop-filter : goal.invariant-loop-filter
invariant-loop-filter l = with_front l.pairs.items (pairs_of (drop l.filter-index l.filters)) ≡ pairs_of l.filters
