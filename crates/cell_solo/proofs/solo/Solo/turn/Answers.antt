use Rattle.std.proofs.Common.{subst, sym}
use Rattle.std.specs.Prelude.{nat_eq, ◌≤◌}
use Rattle.cell_solo.specs.Turns.{Play}
use Rattle.cell_solo.proofs.Plays.{possible_whole, opening_seen}
use Rattle.cell_solo.proofs.solo.Solo.turn.Goals as goal

pub returns-clause-possible : goal.returns-clause-possible
returns-clause-possible g c = possible_whole _ c.self.inside.callers c.args.caller (nat_eq c.self.inside.callers 1) c.self.invariant.play

pub returns-clause-opening : goal.returns-clause-opening
returns-clause-opening g c = opening_seen (record { lines = c.self.inside.base; turns = c.self.inside.turns.list; callers = c.self.inside.callers; caller = c.args.caller; room = c.self.inside.turns.spare }) c.self.invariant.play c.requires.least
    (subst (λ (p : Play). c.args.caller ≤ p.callers) (sym c.self.view_is) c.requires.most)
