use Rattle.std.proofs.Common.{◌≡◌, ◌<◌, ◌+◌, ℕ, true, false, List, ◌∷◌, length, drop, Some, ap, sym, refl, ◌∙◌, arith, slice_index_or}
use Rattle.std.proofs.lemmas.List.{at_drop_more}
use Rattle.qual_codec.specs.declared.cells.Cell.{Cell}
use Rattle.cell_model.specs.Store.{value_among, same_bytes}
use Rattle.cell_model.proofs.row.Cells.value_at.Goals as goal

-- what is left decides by its first cell
from_here : (cells : List Cell) (i : ℕ) (c : Cell) (qual : List ℕ) → i < length cells → c ≡ slice_index_or cells i c → value_among (drop i cells) qual ≡ value_among (c ∷ drop (i + 1) cells) qual
from_here cells i c qual lt is =
    at_drop_more (λ (l : List Cell). value_among l qual) cells i c lt ∙ ap (λ (x : Cell). value_among (x ∷ drop (i + 1) cells) qual) (sym is)

at_first : (cells : List Cell) (c : Cell) (qual : List ℕ) → true ≡ same_bytes c.qual qual → value_among (c ∷ cells) qual ≡ Some c.value
at_first cells c qual same = rw (← same) refl

behind_first : (cells : List Cell) (c : Cell) (qual : List ℕ) → false ≡ same_bytes c.qual qual → value_among (c ∷ cells) qual ≡ value_among cells qual
behind_first cells c qual other = rw (← other) refl

pub returns-then-eq : goal.returns-then-eq
returns-then-eq c =
    let cell : Cell = c.cell-cell.result in
    let qual : c.cell.inside.qual.now ≡ cell.qual = ap (λ (x : Cell). x.qual) c.cell.view_is in
    let value : c.cell.inside.value.now ≡ cell.value = ap (λ (x : Cell). x.value) c.cell.view_is in
    let same : true ≡ same_bytes cell.qual c.args.qual.now = sym c.if-eq.true ∙ c.eq.ensures ∙ ap (λ (q : List ℕ). same_bytes q c.args.qual.now) qual in
    c.loop-i.invariant ∙ from_here c.args.self.now c.loop-i.i cell c.args.qual.now (omega (arith, c.loop-i-test.true, c.len-i-end.ensures)) (c.cell-cell.ensures.cell cell) ∙ at_first (drop (c.loop-i.i + 1) c.args.self.now) cell c.args.qual.now same ∙ ap Some (sym value)

pub loop-i-preserved : goal.loop-i-preserved
loop-i-preserved c =
    let cell : Cell = c.cell-cell.result in
    let qual : c.cell.inside.qual.now ≡ cell.qual = ap (λ (x : Cell). x.qual) c.cell.view_is in
    let other : false ≡ same_bytes cell.qual c.args.qual.now = sym c.if-eq.false ∙ c.eq.ensures ∙ ap (λ (q : List ℕ). same_bytes q c.args.qual.now) qual in
    c.loop-i.invariant ∙ from_here c.args.self.now c.loop-i.i cell c.args.qual.now (omega (arith, c.loop-i-test.true, c.len-i-end.ensures)) (c.cell-cell.ensures.cell cell) ∙ behind_first (drop (c.loop-i.i + 1) c.args.self.now) cell c.args.qual.now other
