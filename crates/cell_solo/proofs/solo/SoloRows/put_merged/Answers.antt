use Rattle.std.proofs.Common.{refl}
use Rattle.cell_model.specs.declared.events.Step.TheVariants.{PutMerged}
use Rattle.cell_model.specs.declared.events.Reply.TheVariants.{Written}
use Rattle.cell_solo.proofs.Plays.{solo_step}
use Rattle.cell_solo.proofs.solo.SoloRows.put_merged.Goals as goal

pub invariant_of-self-2 : goal.invariant_of-self-2
invariant_of-self-2 g c =
    let s = solo_step _ _ _ _ _ _ _ _ (PutMerged c.args.row.now c.args.qual.now c.args.value.now) Written _ c.self.invariant c.self.view_is c.add_merged.ensures.list c.put_next.ensures.list c.put_next.ensures.covers c.requires.knows refl c.in_ok-put_next.ensures.ok refl in
    s.played _

pub returns-clause-steps : goal.returns-clause-steps
returns-clause-steps g c =
    let s = solo_step _ _ _ _ _ _ _ _ (PutMerged c.args.row.now c.args.qual.now c.args.value.now) Written _ c.self.invariant c.self.view_is c.add_merged.ensures.list c.put_next.ensures.list c.put_next.ensures.covers c.requires.knows refl c.in_ok-put_next.ensures.ok refl in
    s.steps _
