use Rattle.std.proofs.Common.{◌≡◌, ◌++◌, map, drop}
use Rattle.http_requests.specs.Forms.{all_values, bytes_of}
use Rattle.http_requests.proofs.form.all_in.Given as goal

abbrev pub invariant-loop-key : goal.invariant-loop-key
invariant-loop-key l = map (λ value. value.now) l.values.items ++ all_values l.name (map bytes_of (drop l.key-index l.pairs)) ≡ all_values l.name (map bytes_of l.pairs)
