use Rattle.std.proofs.Common.{◌≡◌, ◌++◌, map}
use Rattle.form_urlencoded.specs.Parse.{owned_pairs_left}
use Rattle.http_requests.specs.Forms.{bytes_of, decoded, form_pairs}
use Rattle.http_requests.proofs.form.Form.read.Given as goal

abbrev pub invariant-loop-pair : goal.invariant-loop-pair
invariant-loop-pair l = map bytes_of l.pairs.items ++ map (λ p. (decoded p.0, decoded p.1)) (owned_pairs_left l.pair-iterator) ≡ form_pairs l.bytes
