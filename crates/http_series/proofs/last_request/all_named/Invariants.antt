use Rattle.std.proofs.Common.{◌≡◌, drop, map}
use Rattle.http_series.specs.ArgumentReading.{with_front}
use Rattle.http_series.specs.SeriesRequests.{all_named}
use Rattle.http_series.proofs.last_request.all_named.Given as goal

abbrev pub invariant-loop-text : goal.invariant-loop-text
invariant-loop-text l = with_front l.series.items (all_named (map (λ text. text.now) (drop l.text-index l.texts))) ≡ all_named (map (λ text. text.now) l.texts)
