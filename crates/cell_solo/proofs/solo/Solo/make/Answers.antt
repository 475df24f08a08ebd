use Rattle.std.proofs.Common.{ap}
use Rattle.std.specs.Prelude.{nat_eq}
use Rattle.cell_model.specs.History.{History}
use Rattle.cell_solo.specs.Turns.{whole_seen}
use Rattle.cell_solo.proofs.Plays.{possible_whole, opening_seen}
use Rattle.cell_solo.proofs.Openings.{begun, first_play}
use Rattle.cell_solo.proofs.solo.Solo.make.Goals as goal

pub invariant_of-result : goal.invariant_of-result
invariant_of-result g c = first_play _ _ _ _ _ _ c.requires.base c.requires.covers c.in_ok-base.ensures c.in_ok-turns.ensures.turns c.requires.least

pub returns-clause-history : goal.returns-clause-history
returns-clause-history g c = begun _ _ _ _ c.requires.base c.in_ok-base.ensures c.in_ok-turns.ensures.turns

pub returns-clause-seen : goal.returns-clause-seen
returns-clause-seen g c = ap (λ (h : History). whole_seen h 1 (nat_eq c.args.callers 1)) (begun _ _ _ _ c.requires.base c.in_ok-base.ensures c.in_ok-turns.ensures.turns)

pub returns-clause-possible : goal.returns-clause-possible
returns-clause-possible g c =
    let p = first_play _ _ _ _ _ 0 c.requires.base c.requires.covers c.in_ok-base.ensures c.in_ok-turns.ensures.turns c.requires.least in
    possible_whole _ c.args.callers 1 (nat_eq c.args.callers 1) p.play

pub returns-clause-opening : goal.returns-clause-opening
returns-clause-opening g c =
    let p = first_play _ _ _ _ _ 0 c.requires.base c.requires.covers c.in_ok-base.ensures c.in_ok-turns.ensures.turns c.requires.least in
    opening_seen (record { lines = c.in_ok-base.base; turns = c.in_ok-turns.turns.list; callers = c.args.callers; caller = 1; room = 0 }) p.play p.least p.most
