use Rattle.std.proofs.Common.{ℤ, [], ◌∷◌, sym, subst, ◌∙◌, rules}
use Rattle.std.specs.Prelude.{FitsSigned}
use Rattle.std.specs.Int.{w64}
use Rattle.std.proofs.lemmas.Int.{to_z-of_z}
use Rattle.qual_codec.specs.CellDots.{IsDots}
use Rattle.qual_codec.proofs.ShortCells.{one_dot}
use Rattle.qual_codec.proofs.cell_reader.short_dot.Goals as goal

pub returns-clause-reads : goal.returns-clause-reads
returns-clause-reads c =
    let item = c.in-Ok in
    let w = c.next_value-value in
    let fits : FitsSigned w64 w.result.0 = search rules in
    subst (λ (n : ℤ). IsDots c.args.qual.now c.args.value.now ((record { item = item.item; value = n }) ∷ [])) (sym (to_z-of_z w64 w.result.0 fits))
    (one_dot c.args.qual.now c.args.value.now item.field-0-1.now w.result.1.now item.item w.result.0 c.if-qual-ne2.false (c.if-value-from.false ∙ c.from.ensures) item.ensures.item (record { bytes_are = w.ensures.bytes; fits = w.ensures.fits; less = w.ensures.less }))
