-- What one more entry makes of the cells of a store.
use Rattle.std.proofs.Common.{◌≡◌, ◌≢◌, ℕ, ◌+◌, ◌%◌, ◌^◌, Bool, true, false, List, refl, ap, sym, ◌∙◌}
use Rattle.std.specs.Prelude.{Option, None, Some, option_map, nat_lt, if◌then◌else◌}
use Rattle.std.specs.Int.{w64, to_be_bytes}
use Rattle.qual_codec.specs.declared.cells.Cell.{Cell}
use Rattle.row_key.specs.declared.tables.Table.TheVariants.{Ids, Points}
use Rattle.tsd_base.specs.Alphabet.{IsName}
use Rattle.tsd_base.specs.Points.{DataPoint}
use Rattle.tsd_base.specs.declared.kinds.Kind.{Kind}
use Rattle.cell_model.specs.declared.row.Row.{Row}
use Rattle.cell_model.specs.declared.events.Content.{Content}
use Rattle.cell_model.specs.declared.events.Entry.{Entry}
use Rattle.cell_model.specs.declared.events.Place.{Place}
use Rattle.cell_model.specs.declared.events.Placed.{Placed}
use Rattle.cell_model.specs.declared.events.Reply.TheVariants.{Shown}
use Rattle.cell_model.specs.declared.events.Step.TheVariants.{Read, Bump, Claim, PutPoint}
use Rattle.cell_model.specs.History.{History, len, store_after}
use Rattle.cell_model.specs.History.History.{Then}
use Rattle.cell_model.specs.IdRows.{name_row}
use Rattle.cell_model.specs.Machine.{after, counter_of, counter_row, kind_qual, or_written, reply_of}
use Rattle.cell_model.specs.KindWidths.{greatest}
use Rattle.cell_model.specs.Store.{Store, get, cells_of, place_of, value_at, value_among, written}
use Rattle.uid_table.specs.IdSteps.{DidLook}
use Rattle.cell_model.proofs.CallerLemmas.{content-written_other, value_among-cells_of as cells_have}
use Rattle.cell_laws.proofs.CallerLemmas.{not_zero}

-- ---- places that a step doesn't write
bump_other : (s : Store) (place : ℕ) (kind : Kind) (p : Place) → p ≢ place_of counter_row (kind_qual kind) → get (after s place (Bump kind)) p ≡ get s p
bump_other s place kind p other = at (nat_lt (counter_of s kind) (greatest s.widths kind))
  where
    at : (b : Bool) → get (if b then written s counter_row (kind_qual kind) (to_be_bytes w64 (counter_of s kind + 1)) (place % 2 ^ 64) else s) p ≡ get s p
    at true = content-written_other s counter_row (kind_qual kind) _ _ p other
    at false = refl

claim_other : (s : Store) (place : ℕ) (row : Row) (qual value : List ℕ) (p : Place) → p ≢ place_of row qual → get (after s place (Claim row qual value)) p ≡ get s p
claim_other s place row qual value p other = at (value_at s row qual)
  where
    at : (o : Option (List ℕ)) → get (or_written o (written s row qual value (place % 2 ^ 64)) s) p ≡ get s p
    at None = content-written_other s row qual value _ p other
    at (Some v) = refl

put_other : (s : Store) (place : ℕ) (point : DataPoint) (row : Row) (qual value : List ℕ) (p : Place) → p ≢ place_of row qual → get (after s place (PutPoint point row qual value)) p ≡ get s p
put_other s place point row qual value p other = content-written_other s row qual value _ p other

value_same : (s t : Store) (row : Row) (qual : List ℕ) → get t (place_of row qual) ≡ get s (place_of row qual) → value_at t row qual ≡ value_at s row qual
value_same s t row qual e = ap (option_map (λ (c : Content). c.value)) e

module _ (h : History) (e : Entry) where
  pub read_keeps : (row : Row) → e.step ≡ Read row → store_after (Then h e) ≡ store_after h
  read_keeps row is = ap (after (store_after h) (len h + 1)) is

  pub bump_keeps : (kind : Kind) (row : Row) (qual : List ℕ) → e.step ≡ Bump kind → place_of row qual ≢ place_of counter_row (kind_qual kind) → value_at (store_after (Then h e)) row qual ≡ value_at (store_after h) row qual
  bump_keeps kind row qual is other =
      ap (λ s. value_at (after (store_after h) (len h + 1) s) row qual) is ∙ value_same (store_after h) (after (store_after h) (len h + 1) (Bump kind)) row qual (bump_other (store_after h) (len h + 1) kind (place_of row qual) other)

  pub claim_keeps : (at : Row) (q v : List ℕ) (row : Row) (qual : List ℕ) → e.step ≡ Claim at q v → place_of row qual ≢ place_of at q → value_at (store_after (Then h e)) row qual ≡ value_at (store_after h) row qual
  claim_keeps at q v row qual is other =
      ap (λ s. value_at (after (store_after h) (len h + 1) s) row qual) is ∙ value_same (store_after h) (after (store_after h) (len h + 1) (Claim at q v)) row qual (claim_other (store_after h) (len h + 1) at q v (place_of row qual) other)

  pub put_keeps : (point : DataPoint) (at : Row) (q v : List ℕ) (row : Row) (qual : List ℕ) → e.step ≡ PutPoint point at q v → place_of row qual ≢ place_of at q → value_at (store_after (Then h e)) row qual ≡ value_at (store_after h) row qual
  put_keeps point at q v row qual is other =
      ap (λ s. value_at (after (store_after h) (len h + 1) s) row qual) is ∙ value_same (store_after h) (after (store_after h) (len h + 1) (PutPoint point at q v)) row qual (put_other (store_after h) (len h + 1) point at q v (place_of row qual) other)

-- ---- places that differ
pub rows_differ : (a b : Row) (q r : List ℕ) → a ≢ b → place_of a q ≢ place_of b r
rows_differ a b q r other e = other (ap (λ (p : Place). p.row) e)

pub quals_differ : (a b : Row) (q r : List ℕ) → q ≢ r → place_of a q ≢ place_of b r
quals_differ a b q r other e = other (ap (λ (p : Place). p.qual) e)

pub tables_differ : (a b : Row) → a.table ≢ b.table → a ≢ b
tables_differ a b other e = other (ap (λ (r : Row). r.table) e)

pub no_counter_row : (name : List ℕ) → IsName name → name_row name ≢ counter_row
no_counter_row name n e = not_zero name n (ap (λ (r : Row). r.bytes) e)

pub Ids_Points : Ids ≢ Points
Ids_Points e = cc

-- ---- what a look at a name shows
cells_are : (a b : List Cell) → Shown a ≡ Shown b → a ≡ b
cells_are a b e = cc

pub looked_at : (s : Store) (place : ℕ) (d : Placed) (kind : Kind) (name : List ℕ) (shown : Option (List ℕ)) → d.entry.reply ≡ reply_of s place d.entry.step → DidLook d kind name shown → value_at s (name_row name) (kind_qual kind) ≡ shown
looked_at s place d kind name shown legal look =
    let same : look.cells ≡ cells_of s (name_row name) = cells_are _ _ (sym look.did.1 ∙ legal ∙ ap (reply_of s place) look.did.0) in
    cells_have s (name_row name) (kind_qual kind) ∙ ap (λ cells. value_among cells (kind_qual kind)) (sym same) ∙ look.shows

pub looked : (h : History) (d : Placed) (kind : Kind) (name : List ℕ) (shown : Option (List ℕ)) → d.entry.reply ≡ reply_of (store_after h) (len h + 1) d.entry.step → DidLook d kind name shown
    → value_at (store_after h) (name_row name) (kind_qual kind) ≡ shown
looked h d kind name shown legal look = looked_at (store_after h) (len h + 1) d kind name shown legal look
