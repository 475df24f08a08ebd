-- The key of a row that was found.
use Rattle.std.proofs.Common.{◌≡◌, ℕ, List, sym, ap, subst, ◌∙◌}
use Rattle.std.specs.Prelude.{Contains}
use Rattle.row_key.specs.declared.widths.Widths.{Widths}
use Rattle.row_key.specs.declared.keys.RowKey.{RowKey}
use Rattle.row_key.specs.Key.{IsKey, key_bytes}
use Rattle.cell_model.specs.declared.row.Row.{Row}
use Rattle.cell_model.specs.declared.row.Found.{Found}
use Rattle.cell_model.specs.Seen.{Seen}
use Rattle.metric_scan.specs.RowNames.{KnowsPair}
use Rattle.metric_scan.specs.Walks.{KeyOf, FoundRow}
use Rattle.metric_scan.proofs.Lower as lower

pub key_same : (s : Seen) (widths : Widths) (id start end : ℕ) (f : Found) (key : RowKey) → (x : FoundRow s widths id start end f) → IsKey widths key → f.row.bytes ≡ key_bytes widths key → x.key ≡ key
key_same s widths id start end f key x is row = lower.one_key widths x.key key x.of.is_key is (sym (ap (λ (r : Row). r.bytes) x.of.row_is) ∙ row)

-- the key that was read is the row's
pub key_of_row : (s : Seen) (widths : Widths) (id start end : ℕ) (f : Found) (key : RowKey) → FoundRow s widths id start end f → IsKey widths key → f.row.bytes ≡ key_bytes widths key → KeyOf widths id start end f key
key_of_row s widths id start end f key x is row = subst (KeyOf widths id start end f) (key_same s widths id start end f key x is row) x.of

pub row_knows : (s : Seen) (widths : Widths) (id start end : ℕ) (f : Found) (key : RowKey) (pairs : List (ℕ × ℕ)) → FoundRow s widths id start end f → IsKey widths key → f.row.bytes ≡ key_bytes widths key → pairs ≡ key.pairs.items
    → (p : ℕ × ℕ) → Contains pairs p → KnowsPair s p
row_knows s widths id start end f key pairs x is row same p c =
    x.knows p (subst (λ (l : List (ℕ × ℕ)). Contains l p) (same ∙ ap (λ (k : RowKey). k.pairs.items) (sym (key_same s widths id start end f key x is row))) c)
