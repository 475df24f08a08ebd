use Rattle.std.proofs.Common.{◌∙◌, refl, ap, ℕ, List, [], ◌∷◌, ◌++◌}
use Rattle.cell_model.specs.declared.events.Step.TheVariants.{PutMerged}
use Rattle.cell_solo.specs.PackedTurns.{TurnList}
use Rattle.cell_solo.specs.declared.turns.Head.TheVariants as head
use Rattle.cell_solo.proofs.Packing.{pushed_alone, same, cell_length, cell_back, cell_bytes}
use Rattle.cell_solo.proofs.turns.Turns.add_merged.Goals as goal

pub invariant_of-self : goal.invariant_of-self
invariant_of-self c =
    let p = pushed_alone c.self.inside.heads.items c.self.inside.bytes.items c.self.inside.drops.items c.self.inside.places.list (head.PutMerged c.args.caller c.args.row.now.table c.write_cell-cell.result)
    (cell_bytes c.args.row.now.bytes c.args.qual.now c.args.value.now) [] (PutMerged c.args.row.now c.args.qual.now c.args.value.now)
    c.push_reserved.new.self.items c.write_cell-cell.new.block.items c.self.inside.drops.items c.self.invariant
    (record { bytes_are = cell_length c.write_cell-cell.result c.args.row.now.bytes c.args.qual.now c.args.value.now c.write_cell-cell.ensures.lengths; drops_are = refl }) refl
    (cell_back (λ (r q v : List ℕ). PutMerged (record { table = c.args.row.now.table; bytes = r }) q v) c.write_cell-cell.result c.args.row.now.bytes c.args.qual.now c.args.value.now _ c.write_cell-cell.ensures.lengths refl)
    c.push_reserved.ensures.items c.write_cell-cell.ensures.items (same _ _ refl) in
    p.fills

pub returns-clause-list : goal.returns-clause-list
returns-clause-list c =
    let p = pushed_alone c.self.inside.heads.items c.self.inside.bytes.items c.self.inside.drops.items c.self.inside.places.list (head.PutMerged c.args.caller c.args.row.now.table c.write_cell-cell.result)
    (cell_bytes c.args.row.now.bytes c.args.qual.now c.args.value.now) [] (PutMerged c.args.row.now c.args.qual.now c.args.value.now)
    c.push_reserved.new.self.items c.write_cell-cell.new.block.items c.self.inside.drops.items c.self.invariant
    (record { bytes_are = cell_length c.write_cell-cell.result c.args.row.now.bytes c.args.qual.now c.args.value.now c.write_cell-cell.ensures.lengths; drops_are = refl }) refl
    (cell_back (λ (r q v : List ℕ). PutMerged (record { table = c.args.row.now.table; bytes = r }) q v) c.write_cell-cell.result c.args.row.now.bytes c.args.qual.now c.args.value.now _ c.write_cell-cell.ensures.lengths refl)
    c.push_reserved.ensures.items c.write_cell-cell.ensures.items (same _ _ refl) in
    p.list ∙ ap (λ (t : TurnList). t.list ++ record { caller = c.args.caller; step = PutMerged c.args.row.now c.args.qual.now c.args.value.now } ∷ []) c.self.view_is
