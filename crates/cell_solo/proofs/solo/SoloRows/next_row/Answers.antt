use Rattle.std.proofs.Common.{ap, refl, subst, sym}
use Rattle.cell_model.specs.Ranges.{InOneRange}
use Rattle.cell_solo.specs.Turns.{Play, sight}
use Rattle.cell_model.specs.declared.events.Step.TheVariants.{NextRow}
use Rattle.cell_model.specs.declared.events.Reply.TheVariants.{Next}
use Rattle.cell_solo.proofs.Plays.{range_here, solo_step}
use Rattle.cell_solo.proofs.solo.SoloRows.next_row.Goals as goal

pub invariant_of-self-2 : goal.invariant_of-self-2
invariant_of-self-2 g c =
    let s = solo_step _ _ _ _ _ _ _ _ (NextRow c.args.table c.args.from.now c.args.to.now) (Next c.in_ok-found.found) _ c.self.invariant c.self.view_is c.add_next_row.ensures.list c.in_ok-reserve.ensures.list refl tt (ap Next c.in_ok-found.ensures) refl refl in
    s.played _

pub returns-clause-steps : goal.returns-clause-steps
returns-clause-steps g c =
    let s = solo_step _ _ _ _ _ _ _ _ (NextRow c.args.table c.args.from.now c.args.to.now) (Next c.in_ok-found.found) _ c.self.invariant c.self.view_is c.add_next_row.ensures.list c.in_ok-reserve.ensures.list refl tt (ap Next c.in_ok-found.ensures) refl refl in
    s.steps _

pub next_row-requires-clause-range : goal.next_row-requires-clause-range
next_row-requires-clause-range g c =
    range_here _ _ _ c.self.invariant c.args.table c.args.from.now c.args.to.now (subst (λ (p : Play). InOneRange (sight p).base.widths c.args.table c.args.from.now c.args.to.now) (sym c.self.view_is) c.requires.range)
