use Rattle.std.proofs.Common.{ℕ, List, false, subst, sym}
use Rattle.std.specs.Prelude.{All, IsTrue, ◌↔◌, ◌≡◌}
use Rattle.std.proofs.lemmas.Bool.{false≢true}
use Rattle.std.proofs.lemmas.List.Elements.{All-push}
use Rattle.qual_codec.specs.declared.cells.Cell.{Cell}
use Rattle.qual_codec.specs.declared.cells.Dot.{Dot}
use Rattle.qual_codec.specs.CellDots.{HoldsDots, ReadsByItems, column_qual}
use Rattle.qual_codec.proofs.CallerLemmas.{by_items_alone}
use Rattle.test_readers.proofs.cell_cases.add_cell.Goals as goal

-- a cell that reads and isn't the column does so by its items
not_column : (qual value : List ℕ) (dots : List Dot) → (IsTrue false ↔ (qual ≡ column_qual)) → HoldsDots qual value dots → ReadsByItems qual value
not_column qual value dots other reads = (dots, by_items_alone qual value dots (λ is. false≢true (other.1 is)) reads)

pub returns : goal.returns
returns c =
    let cell : Cell = record { qual = c.args.qual.now; value = c.args.value.now; version = 0 } in
    subst (λ (l : List Cell). All (λ (x : Cell). ReadsByItems x.qual x.value) l) (sym c.in_ok-push.ensures.items)
    (All-push (λ (x : Cell). ReadsByItems x.qual x.value) c.args.cells.now.items cell c.requires (not_column c.args.qual.now c.args.value.now _ c.if-is_column.ensures c.in-Ok.ensures.reads))
