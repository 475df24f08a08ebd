use Rattle.std.proofs.Common.{◌∙◌, refl, ap, [], ◌∷◌, ◌++◌}
use Rattle.cell_model.specs.declared.events.Step.TheVariants.{Bump}
use Rattle.cell_solo.specs.PackedTurns.{TurnList}
use Rattle.cell_solo.specs.declared.turns.Head.TheVariants as head
use Rattle.cell_solo.proofs.Packing.{pushed_alone, same}
use Rattle.cell_solo.proofs.turns.Turns.add_bump.Goals as goal

pub invariant_of-self : goal.invariant_of-self
invariant_of-self c =
    let p = pushed_alone c.self.inside.heads.items c.self.inside.bytes.items c.self.inside.drops.items c.self.inside.places.list (head.Bump c.args.caller c.args.kind) [] [] (Bump c.args.kind)
    c.push_reserved.new.self.items c.self.inside.bytes.items c.self.inside.drops.items c.self.invariant (record { bytes_are = refl; drops_are = refl }) refl refl
    c.push_reserved.ensures.items (same _ _ refl) (same _ _ refl) in
    p.fills

pub returns-clause-list : goal.returns-clause-list
returns-clause-list c =
    let p = pushed_alone c.self.inside.heads.items c.self.inside.bytes.items c.self.inside.drops.items c.self.inside.places.list (head.Bump c.args.caller c.args.kind) [] [] (Bump c.args.kind)
    c.push_reserved.new.self.items c.self.inside.bytes.items c.self.inside.drops.items c.self.invariant (record { bytes_are = refl; drops_are = refl }) refl refl
    c.push_reserved.ensures.items (same _ _ refl) (same _ _ refl) in
    p.list ∙ ap (λ (t : TurnList). t.list ++ record { caller = c.args.caller; step = Bump c.args.kind } ∷ []) c.self.view_is
