use Rattle.std.proofs.Common.{refl}
use Rattle.cell_model.specs.declared.events.Step.TheVariants.{PutPoint}
use Rattle.cell_model.specs.declared.events.Reply.TheVariants.{Written}
use Rattle.tsd_base.specs.Points.{data_point}
use Rattle.cell_solo.proofs.Plays.{solo_step}
use Rattle.cell_solo.proofs.Packing.{put_of_layout}
use Rattle.cell_solo.proofs.RowNames.{only_known}
use Rattle.cell_solo.proofs.solo.SoloRows.put_point.Goals as goal

pub add_point-requires-clause-only : goal.add_point-requires-clause-only
add_point-requires-clause-only g c =
    only_known _ _ _ _ _ (data_point c.args.point.now) c.args.row.now c.args.qual.now c.args.value.now c.self.invariant c.self.view_is c.put_next.ensures.list c.requires.knows

pub invariant_of-self-2 : goal.invariant_of-self-2
invariant_of-self-2 g c =
    let s = solo_step _ _ _ _ _ _ _ _ (PutPoint (data_point c.args.point.now) c.args.row.now c.args.qual.now c.args.value.now) Written _ c.self.invariant c.self.view_is (put_of_layout c.requires.knows.ids _ _ c.self.inside.caller (data_point c.args.point.now) c.args.row.now c.args.qual.now c.args.value.now c.list.result.now c.requires.knows.layout c.list.ensures c.add_point.ensures.list) c.put_next.ensures.list c.put_next.ensures.covers c.requires.knows refl c.in_ok-put_next.ensures.ok refl in
    s.played _

pub returns-clause-steps : goal.returns-clause-steps
returns-clause-steps g c =
    let s = solo_step _ _ _ _ _ _ _ _ (PutPoint (data_point c.args.point.now) c.args.row.now c.args.qual.now c.args.value.now) Written _ c.self.invariant c.self.view_is (put_of_layout c.requires.knows.ids _ _ c.self.inside.caller (data_point c.args.point.now) c.args.row.now c.args.qual.now c.args.value.now c.list.result.now c.requires.knows.layout c.list.ensures c.add_point.ensures.list) c.put_next.ensures.list c.put_next.ensures.covers c.requires.knows refl c.in_ok-put_next.ensures.ok refl in
    s.steps _
