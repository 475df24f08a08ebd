-- What a scan shows was accepted at its end.
use Rattle.std.proofs.Common.{◌≡◌, inl, inr, ℕ, ◌≤◌, List, refl, sym, ap, subst, ◌∙◌}
use Rattle.std.specs.Prelude.{Option, Some, Contains}
use Rattle.tsd_base.specs.declared.kinds.Kind.{Kind}
use Rattle.qual_codec.specs.declared.cells.Cell.{Cell}
use Rattle.row_key.specs.declared.widths.Widths.{Widths}
use Rattle.cell_model.specs.declared.row.Row.{Row}
use Rattle.cell_model.specs.declared.row.Found.{Found}
use Rattle.cell_model.specs.Store.{value_at}
use Rattle.cell_model.specs.History.{History, first, store_after}
use Rattle.cell_model.specs.History.History.{Then}
use Rattle.cell_model.specs.IdRows.{name_of}
use Rattle.cell_model.specs.Lawful.{IsLawful}
use Rattle.cell_model.specs.Readings.{Reading, point_row, AcceptedBy, Accepted}
use Rattle.row_scan.specs.Scans.{IsRowOf, Wanting}
use Rattle.row_scan.specs.RowReadings.{RowReads}
use Rattle.row_scan.specs.Laws.{ScanGives}
use Rattle.row_scan.proofs.CellsOf.{cell_at}
use Rattle.row_scan.proofs.Whole.{begins_firsts}
use Rattle.row_scan.proofs.Lower.{first_lawful, entry_at-more, stood_accepted, Begins, whole, longer}

-- a cell of a row that was found stood at some length
pub record ShownCell (h : History) (end : ℕ) (f : Found) (cell : Cell) : Type 0 where
  pub when : ℕ
  pub up_to : when ≤ end
  pub stands : value_at (store_after (first when h)) (point_row f.row.bytes) cell.qual ≡ Some cell.value

pub in_points : (w : Widths) (metric first last : ℕ) (row : Row) → IsRowOf w metric first last row → row ≡ point_row row.bytes
in_points w metric first last row r = r.row_is ∙ ap point_row (sym (ap (λ (x : Row). x.bytes) r.row_is))

pub shown_cell : (wants : Wanting) (h : History) (start end metric first_base last_base : ℕ) (founds : List Found) → ScanGives wants h start end metric first_base last_base founds → (f : Found) → Contains founds f → (cell : Cell) → Contains f.cells cell → ShownCell h end f cell
shown_cell wants h start end metric first_base last_base founds gives f given cell c =
    let w = gives.only f given in
    let found = w.1 in
    record {
      when = found.when;
      up_to = found.up_to;
      stands = ap (λ (r : Row). value_at (store_after (first found.when h)) r cell.qual) (sym (in_points (store_after h).widths metric first_base last_base f.row w.0))
          ∙ cell_at (store_after (first found.when h)) f.row cell (subst (λ (cs : List Cell). Contains cs cell) found.cells c);
    }

accepted_begins : (names : Kind → ℕ → Option (List ℕ)) (r : Reading) {h0 h : History} → Begins h0 h → AcceptedBy names h0 r → AcceptedBy names h r
accepted_begins names r whole a = a
accepted_begins names r (longer {h = h} {e = e} b) a = more (accepted_begins names r b a)
  where
    more : AcceptedBy names h r → AcceptedBy names (Then h e) r
    more (inl based) = inl based
    more (inr w) = inr (w.0, (w.1.0, entry_at-more h e w.0 w.1.0 w.1.1), w.2)

-- what it reads was accepted
pub shown_accepted : (h : History) (end : ℕ) (f : Found) (r : Reading) → IsLawful h → (x : RowReads (store_after (first end h)).widths (name_of (first end h)) f r) → ShownCell h end f x.cell → Accepted (first end h) r
shown_accepted h end f r l x s =
    let row = point_row f.row.bytes in
    let b = begins_firsts s.when end h s.up_to in
    accepted_begins (name_of (first end h)) r b (stood_accepted (first s.when h) (first end h) b (first_lawful h end l) row x.cell.qual x.cell.value r refl s.stands x.reads)
