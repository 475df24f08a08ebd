-- The store without a cell.
use Rattle.std.proofs.Common.{◌≡◌, ℕ, List, sym, ap, ◌∙◌}
use Rattle.std.specs.Prelude.{Option, None, Some, option_map}
use Rattle.std.specs.FinMap.{get-empty}
use Rattle.list_lemmas.proofs.BoolTests.{not_Some}
use Rattle.cell_model.specs.KindWidths.{Widths}
use Rattle.cell_model.specs.declared.row.Row.{Row}
use Rattle.cell_model.specs.declared.events.Content.{Content}
use Rattle.cell_model.specs.IdRows.{name_row, reverse_row}
use Rattle.cell_model.specs.Machine.{counter_row}
use Rattle.cell_model.specs.PlaceOrder.{place_cmp}
use Rattle.cell_model.specs.Sound.{IsBase}
use Rattle.cell_model.specs.Store.{no_cells, place_of, value_at}

pub no_cell : (w : Widths) (row : Row) (qual : List ℕ) → value_at (no_cells w) row qual ≡ None
no_cell w row qual = ap (λ (o : Option Content). option_map (λ (c : Content). c.value) o) (get-empty place_cmp (place_of row qual))

pub nothing : (w : Widths) (row : Row) (qual value : List ℕ) → value_at (no_cells w) row qual ≡ Some value → ⊥
nothing w row qual value is = not_Some value (sym is ∙ no_cell w row qual)

-- it is sound, whichever widths its ids have
pub empty_base : (w : Widths) → IsBase (no_cells w)
empty_base w = record {
  sound = record {
    counters = λ qual value is. absurd (nothing w counter_row qual value is);
    forward = λ name qual value d is. absurd (nothing w (name_row name) qual value is);
    reverse = λ bytes qual name is. absurd (nothing w (reverse_row bytes) qual name is);
    rows = λ row qual value p is. absurd (nothing w row qual value is);
    cells = λ row qual value p is. absurd (nothing w row qual value is);
  };
  versions = λ row qual c is. absurd (not_Some c (sym is ∙ get-empty place_cmp (place_of row qual)));
}
