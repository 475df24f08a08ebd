use Rattle.std.proofs.Common.{◌≡◌, map, drop}
use Rattle.http_requests.specs.Forms.{first_value, bytes_of}
use Rattle.http_requests.proofs.form.first_in.Given as goal

abbrev pub invariant-loop-found : goal.invariant-loop-found
invariant-loop-found l = first_value l.name (map bytes_of (drop l.found-index l.pairs)) ≡ first_value l.name (map bytes_of l.pairs)
