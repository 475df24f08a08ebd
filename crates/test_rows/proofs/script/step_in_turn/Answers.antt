use Rattle.std.proofs.Common.{ap}
use Rattle.test_rows.specs.Sharing.{Sharing}
use Rattle.test_rows.proofs.Passing.{in_turn}
use Rattle.test_rows.proofs.script.step_in_turn.Goals as goal

pub returns : goal.returns
returns c = in_turn c.args.shared.now.solo c.turn.new.self.solo c.make-acted.new.shared.solo c.turn-2.new.self.solo c.args.caller c.requires.first c.turn.ensures.callers c.requires.other (ap (λ (s : Sharing). s.solo) c.turn.ensures.turned)
    c.make-acted.ensures (ap (λ (s : Sharing). s.solo) c.turn-2.ensures.turned) c.turn-2.ensures.possible
