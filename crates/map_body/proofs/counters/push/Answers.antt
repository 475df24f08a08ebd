use Rattle.std.proofs.Common.{List, ◌++◌, ap, ◌∙◌}
use Rattle.map_body.proofs.Counted.{one_shown}
use Rattle.qual_codec.specs.declared.cells.Cell.{Cell}
use Rattle.map_body.proofs.counters.push.Goals as goal

pub returns : goal.returns
returns c = record { ok = c.in_ok-push.ensures.ok ∙ ap (λ (l : List Cell). c.args.cells.now ++ l) (one_shown c.args.kind c.args.counter c.name.result.now c.to_be_bytes-value.result c.if-counter-eq0.false c.name.ensures c.to_be_bytes-value.ensures) }
