-- A step on an owned body, and then its stamp, is the step at its place.
use Rattle.std.proofs.Common.{◌≡◌, ◌≢◌, ℕ, ◌+◌, ◌%◌, ◌^◌, ◌<◌, Bool, true, false, List, refl, sym, ap, ◌∙◌, arith}
use Rattle.std.specs.Prelude.{Option, None, Some, nat_lt, if◌then◌else◌}
use Rattle.std.specs.Int.{w64, to_be_bytes}
use Rattle.tsd_base.specs.declared.kinds.Kind.{Kind}
use Rattle.cell_model.specs.declared.row.Row.{Row}
use Rattle.cell_model.specs.declared.events.Step.TheVariants.{Bump, Claim, PutMerged}
use Rattle.cell_model.specs.declared.answers.Bumped.TheVariants.{Given, Full}
use Rattle.cell_model.specs.declared.answers.Claimed.TheVariants.{Done, Held}
use Rattle.qual_codec.specs.CellDots.{column_qual}
use Rattle.cell_model.specs.Store.{Store, content_at, value_at, with_cells, written, appended, stamped}
use Rattle.cell_model.specs.Machine.{after, or_written, claim_reply, bump_reply, counter_row, counter_of, kind_qual, greatest}
use Rattle.cell_model.proofs.Stores.{stamped-written, some_there}

fits_place : (place : ℕ) → place < 2 ^ 64 → place % 2 ^ 64 ≡ place
fits_place place lt = omega arith

pub bump_stamped : (s : Store) (kind : Kind) (place id : ℕ) → place < 2 ^ 64 → bump_reply s kind ≡ Given id → stamped (after s 0 (Bump kind)) counter_row (kind_qual kind) place ≡ after s place (Bump kind)
bump_stamped s kind place id lt = at (nat_lt (counter_of s kind) (greatest s.widths kind))
  where
    value : List ℕ
    value = to_be_bytes w64 (counter_of s kind + 1)

    at : (b : Bool) → (if b then Given (counter_of s kind + 1) else Full) ≡ Given id
        → stamped (with_cells s (if b then written s counter_row (kind_qual kind) (to_be_bytes w64 (counter_of s kind + 1)) 0 else s)) counter_row (kind_qual kind) place ≡ with_cells s (if b then written s counter_row (kind_qual kind) (to_be_bytes w64 (counter_of s kind + 1)) (place % 2 ^ 64) else s)
    at true e = stamped-written s counter_row (kind_qual kind) _ 0 place ∙ ap (written s counter_row (kind_qual kind) _) (sym (fits_place place lt))
    at false e = cc

pub bump_full : (s : Store) (kind : Kind) (place : ℕ) → bump_reply s kind ≡ Full → after s 0 (Bump kind) ≡ after s place (Bump kind)
bump_full s kind place = at (nat_lt (counter_of s kind) (greatest s.widths kind))
  where
    at : (b : Bool) → (if b then Given (counter_of s kind + 1) else Full) ≡ Full
        → with_cells s (if b then written s counter_row (kind_qual kind) (to_be_bytes w64 (counter_of s kind + 1)) 0 else s) ≡ with_cells s (if b then written s counter_row (kind_qual kind) (to_be_bytes w64 (counter_of s kind + 1)) (place % 2 ^ 64) else s)
    at true e = cc
    at false e = refl

pub bump_there : (s : Store) (kind : Kind) (id : ℕ) → bump_reply s kind ≡ Given id → content_at (after s 0 (Bump kind)) counter_row (kind_qual kind) ≢ None
bump_there s kind id = at (nat_lt (counter_of s kind) (greatest s.widths kind))
  where
    at : (b : Bool) → (if b then Given (counter_of s kind + 1) else Full) ≡ Given id → content_at (if b then written s counter_row (kind_qual kind) (to_be_bytes w64 (counter_of s kind + 1)) 0 else s) counter_row (kind_qual kind) ≢ None
    at true e = some_there s counter_row (kind_qual kind) _ 0
    at false e = cc

pub claim_stamped : (s : Store) (row : Row) (qual value : List ℕ) (place : ℕ) → place < 2 ^ 64 → Done ≡ claim_reply (value_at s row qual) → stamped (after s 0 (Claim row qual value)) row qual place ≡ after s place (Claim row qual value)
claim_stamped s row qual value place lt = at (value_at s row qual)
  where
    at : (o : Option (List ℕ)) → Done ≡ claim_reply o → stamped (with_cells s (or_written o (written s row qual value 0) s)) row qual place ≡ with_cells s (or_written o (written s row qual value (place % 2 ^ 64)) s)
    at None e = stamped-written s row qual value 0 place ∙ ap (written s row qual value) (sym (fits_place place lt))
    at (Some v) e = cc

pub claim_held : (s : Store) (row : Row) (qual value held : List ℕ) (place : ℕ) → Held held ≡ claim_reply (value_at s row qual) → after s 0 (Claim row qual value) ≡ after s place (Claim row qual value)
claim_held s row qual value held place = at (value_at s row qual)
  where
    at : (o : Option (List ℕ)) → Held held ≡ claim_reply o → with_cells s (or_written o (written s row qual value 0) s) ≡ with_cells s (or_written o (written s row qual value (place % 2 ^ 64)) s)
    at None e = cc
    at (Some v) e = refl

pub claim_there : (s : Store) (row : Row) (qual value : List ℕ) → Done ≡ claim_reply (value_at s row qual) → content_at (after s 0 (Claim row qual value)) row qual ≢ None
claim_there s row qual value = at (value_at s row qual)
  where
    at : (o : Option (List ℕ)) → Done ≡ claim_reply o → content_at (or_written o (written s row qual value 0) s) row qual ≢ None
    at None e = some_there s row qual value 0
    at (Some v) e = cc

pub put_stamped : (s : Store) (row : Row) (qual value : List ℕ) (place : ℕ) → place < 2 ^ 64 → stamped (after s 0 (PutMerged row qual value)) row qual place ≡ after s place (PutMerged row qual value)
put_stamped s row qual value place lt = stamped-written s row qual value 0 place ∙ ap (written s row qual value) (sym (fits_place place lt))

pub put_there : (s : Store) (row : Row) (qual value : List ℕ) → content_at (after s 0 (PutMerged row qual value)) row qual ≢ None
put_there s row qual value = some_there s row qual value 0

pub append_stamped : (s : Store) (row : Row) (piece : List ℕ) (place : ℕ) → place < 2 ^ 64 → stamped (appended s row piece 0) row column_qual place ≡ appended s row piece (place % 2 ^ 64)
append_stamped s row piece place lt = stamped-written s row column_qual _ 0 place ∙ ap (λ (n : ℕ). appended s row piece n) (sym (fits_place place lt))

pub append_there : (s : Store) (row : Row) (piece : List ℕ) → content_at (appended s row piece 0) row column_qual ≢ None
append_there s row piece = some_there s row column_qual _ 0
