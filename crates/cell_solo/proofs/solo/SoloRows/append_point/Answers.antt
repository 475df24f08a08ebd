use Rattle.std.proofs.Common.{refl, subst, sym, ◌∙◌, List, ℕ}
use Rattle.cell_model.specs.declared.events.Step.TheVariants.{AppendPoint}
use Rattle.cell_model.specs.declared.events.Reply.TheVariants.{Written}
use Rattle.tsd_base.specs.Points.{data_point}
use Rattle.qual_codec.specs.Spelling.{IsShortest}
use Rattle.cell_solo.proofs.Plays.{solo_step, still}
use Rattle.cell_solo.proofs.Packing.{append_of_piece, piece_of}
use Rattle.cell_solo.proofs.RowNames.{only_known}
use Rattle.cell_solo.proofs.solo.SoloRows.append_point.Goals as goal

pub value_of-value-requires : goal.value_of-value-requires
value_of-value-requires g c =
    let known = c.requires.knows in
    let of_point = piece_of known.put.ids (data_point c.args.point.now) c.args.row.now c.args.piece.now known.qual known.value known.put.layout known.piece_is in
    of_point.long

pub add_point-requires-clause-shortest : goal.add_point-requires-clause-shortest
add_point-requires-clause-shortest g c =
    let known = c.requires.knows in
    let of_point = piece_of known.put.ids (data_point c.args.point.now) c.args.row.now c.args.piece.now known.qual known.value known.put.layout known.piece_is in
    subst (λ (v : List ℕ). IsShortest (data_point c.args.point.now).value v) (sym (c.value_of-value.ensures ∙ of_point.value_is)) known.put.layout.shortest

pub add_point-requires-clause-only : goal.add_point-requires-clause-only
add_point-requires-clause-only g c =
    only_known _ _ _ _ _ (data_point c.args.point.now) c.args.row.now c.requires.knows.qual c.requires.knows.value c.self.invariant c.self.view_is c.append_next.ensures.list c.requires.knows.put

pub invariant_of-self : goal.invariant_of-self
invariant_of-self g c =
    let s = still _ _ _ _ _ _ _ c.self.invariant c.self.view_is c.append_next.ensures.list c.append_next.ensures.covers c.in_err-append_next.ensures.err in
    s.played _

pub invariant_of-self-2 : goal.invariant_of-self-2
invariant_of-self-2 g c =
    let known = c.requires.knows in
    let of_point = piece_of known.put.ids (data_point c.args.point.now) c.args.row.now c.args.piece.now known.qual known.value known.put.layout known.piece_is in
    let s = solo_step _ _ _ _ _ _ _ _ (AppendPoint (data_point c.args.point.now) c.args.row.now c.args.piece.now) Written _ c.self.invariant c.self.view_is (append_of_piece _ _ c.self.inside.caller (data_point c.args.point.now) c.args.row.now c.args.piece.now known.value c.value_of-value.result.now of_point c.value_of-value.ensures c.add_point.ensures.list) c.append_next.ensures.list c.append_next.ensures.covers known refl c.in_ok-append_next.ensures.ok refl in
    s.played _

pub returns-clause-steps : goal.returns-clause-steps
returns-clause-steps g c =
    let known = c.requires.knows in
    let of_point = piece_of known.put.ids (data_point c.args.point.now) c.args.row.now c.args.piece.now known.qual known.value known.put.layout known.piece_is in
    let s = solo_step _ _ _ _ _ _ _ _ (AppendPoint (data_point c.args.point.now) c.args.row.now c.args.piece.now) Written _ c.self.invariant c.self.view_is (append_of_piece _ _ c.self.inside.caller (data_point c.args.point.now) c.args.row.now c.args.piece.now known.value c.value_of-value.result.now of_point c.value_of-value.ensures c.add_point.ensures.list) c.append_next.ensures.list c.append_next.ensures.covers known refl c.in_ok-append_next.ensures.ok refl in
    s.steps _
