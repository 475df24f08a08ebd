use Rattle.std.proofs.Common.{◌∙◌, refl, ap, [], ◌∷◌, ◌++◌, length}
use Rattle.cell_model.specs.declared.events.Step.TheVariants.{Read}
use Rattle.cell_solo.specs.PackedTurns.{TurnList}
use Rattle.cell_solo.specs.declared.turns.Head.TheVariants as head
use Rattle.cell_solo.proofs.Packing.{pushed_alone, same, row_back}
use Rattle.cell_solo.proofs.turns.Turns.add_read.Goals as goal

pub invariant_of-self : goal.invariant_of-self
invariant_of-self c =
    let p = pushed_alone c.self.inside.heads.items c.self.inside.bytes.items c.self.inside.drops.items c.self.inside.places.list
    (head.Read c.args.caller c.args.row.now.table (length c.list-bytes.result.now)) c.list-bytes.result.now [] (Read c.args.row.now)
    c.push_reserved.new.self.items c.write.new.block.items c.self.inside.drops.items c.self.invariant (record { bytes_are = refl; drops_are = refl }) refl
    (ap Read (row_back c.args.row.now c.list-bytes.result.now c.list-bytes.ensures)) c.push_reserved.ensures.items c.write.ensures.items (same _ _ refl) in
    p.fills

pub returns-clause-list : goal.returns-clause-list
returns-clause-list c =
    let p = pushed_alone c.self.inside.heads.items c.self.inside.bytes.items c.self.inside.drops.items c.self.inside.places.list
    (head.Read c.args.caller c.args.row.now.table (length c.list-bytes.result.now)) c.list-bytes.result.now [] (Read c.args.row.now)
    c.push_reserved.new.self.items c.write.new.block.items c.self.inside.drops.items c.self.invariant (record { bytes_are = refl; drops_are = refl }) refl
    (ap Read (row_back c.args.row.now c.list-bytes.result.now c.list-bytes.ensures)) c.push_reserved.ensures.items c.write.ensures.items (same _ _ refl) in
    p.list ∙ ap (λ (t : TurnList). t.list ++ record { caller = c.args.caller; step = Read c.args.row.now } ∷ []) c.self.view_is
