use Rattle.std.proofs.Common.{inl, List, [], ◌∷◌, rules, subst}
use Rattle.qual_codec.specs.declared.cells.Dot.{Dot}
use Rattle.qual_codec.specs.CellDots.{HoldsDots}
use Rattle.listing_check.proofs.RowTurns.{held_added}
use Rattle.listing_check.proofs.cell_notes.add_cell.Goals as goal

pub returns-in-Some : goal.returns-in-Some
returns-in-Some c = held_added c.args.qual.now c.args.value.now (c.in-Some.dot ∷ []) c.in_ok-clashes.clashes c.args.values.now c.add_all.new.self (inl c.in-Some.ensures.reads) c.in_ok-clashes.ensures

pub returns : goal.returns
returns c =
    held_added c.args.qual.now c.args.value.now c.deref.result.now c.in_ok-clashes-2.clashes c.args.values.now c.add_all-2.new.self
    (subst (λ (ds : List Dot). HoldsDots c.args.qual.now c.args.value.now ds) (search rules) c.in_ok-own.ensures) c.in_ok-clashes-2.ensures
