use Rattle.std.proofs.Common.{◌∙◌, refl, ap, [], ◌∷◌, ◌++◌, length}
use Rattle.cell_model.specs.declared.events.Step.TheVariants.{NextRow}
use Rattle.cell_solo.specs.PackedTurns.{TurnList}
use Rattle.cell_solo.specs.declared.turns.Head.TheVariants as head
use Rattle.cell_solo.proofs.Packing.{pushed_alone, same, range_length, range_back}
use Rattle.cell_solo.proofs.Placing.{written_twice}
use Rattle.cell_solo.proofs.turns.Turns.add_next_row.Goals as goal

pub invariant_of-self : goal.invariant_of-self
invariant_of-self c =
    let p = pushed_alone c.self.inside.heads.items c.self.inside.bytes.items c.self.inside.drops.items c.self.inside.places.list
    (head.NextRow c.args.caller c.args.table (length c.list-3.result.now) (length c.list-4.result.now)) (c.args.from.now ++ c.args.to.now) [] (NextRow c.args.table c.args.from.now c.args.to.now)
    c.push_reserved.new.self.items c.write-2.new.block.items c.self.inside.drops.items c.self.invariant
    (record { bytes_are = range_length c.args.from.now c.args.to.now _ _ c.list-3.ensures c.list-4.ensures; drops_are = refl }) refl
    (range_back c.args.table c.args.from.now c.args.to.now _ _ c.list-3.ensures c.list-4.ensures) c.push_reserved.ensures.items
    (written_twice _ _ _ _ _ _ _ c.write.ensures.items c.write-2.ensures.items c.list.ensures c.list-2.ensures) (same _ _ refl) in
    p.fills

pub returns-clause-list : goal.returns-clause-list
returns-clause-list c =
    let p = pushed_alone c.self.inside.heads.items c.self.inside.bytes.items c.self.inside.drops.items c.self.inside.places.list
    (head.NextRow c.args.caller c.args.table (length c.list-3.result.now) (length c.list-4.result.now)) (c.args.from.now ++ c.args.to.now) [] (NextRow c.args.table c.args.from.now c.args.to.now)
    c.push_reserved.new.self.items c.write-2.new.block.items c.self.inside.drops.items c.self.invariant
    (record { bytes_are = range_length c.args.from.now c.args.to.now _ _ c.list-3.ensures c.list-4.ensures; drops_are = refl }) refl
    (range_back c.args.table c.args.from.now c.args.to.now _ _ c.list-3.ensures c.list-4.ensures) c.push_reserved.ensures.items
    (written_twice _ _ _ _ _ _ _ c.write.ensures.items c.write-2.ensures.items c.list.ensures c.list-2.ensures) (same _ _ refl) in
    p.list ∙ ap (λ (t : TurnList). t.list ++ record { caller = c.args.caller; step = NextRow c.args.table c.args.from.now c.args.to.now } ∷ []) c.self.view_is
