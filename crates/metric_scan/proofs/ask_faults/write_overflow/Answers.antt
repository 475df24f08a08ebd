use Rattle.std.specs.Prelude.{codes, decimal}
use Rattle.std.proofs.lemmas.Result.{on_ok_weaker}
use Rattle.metric_scan.proofs.TextLemmas.{joined}
use Rattle.metric_scan.proofs.ask_faults.write_overflow.Goals as goal

pub returns : goal.returns
returns c =
    on_ok_weaker c.write_number.result
    (λ written. joined c.args.out.now.items c.extend_from_slice.new.self.items c.write_number.new.out.items (codes "overflow at ") (decimal c.args.time) c.in_ok-extend_from_slice.ensures.items written)
    c.write_number.ensures.ok
