-- Of the rows that pass the filters by ids those that pass by the names of their values too.
use Rattle.std.proofs.Common.{◌≡◌, ℕ, Bool, true, false, List, [], ◌∷◌, refl, ap, ◌∙◌}
use Rattle.std.specs.Prelude.{◌&&◌, ◌||◌, not}
use Rattle.std.specs.List.{list_any}
use Rattle.row_key.specs.declared.widths.Widths.{Widths}
use Rattle.row_key.specs.declared.keys.RowKey.{RowKey}
use Rattle.cell_model.specs.declared.row.Row.{Row}
use Rattle.cell_model.specs.declared.row.Found.{Found}
use Rattle.cell_model.specs.declared.events.Placed.{Placed}
use Rattle.cell_model.specs.History.{History}
use Rattle.cell_model.specs.IdRows.{name_of}
use Rattle.query_text.specs.declared.queries.Filter.{Filter}
use Rattle.query_text.specs.FilterTexts.{is_of_text}
use Rattle.row_scan.specs.Scans.{Left, Wanting, Skips, Scanned}
use Rattle.row_scan.specs.Scans.Scanned.{ended, found, other, skipped}
use Rattle.metric_scan.specs.declared.id_filter.IdFilter.{IdFilter}
use Rattle.metric_scan.specs.IdFilters.{passes}
use Rattle.metric_scan.specs.RowNames.{Names}
use Rattle.query_run.specs.ValueJudges.{pair_passes, suits}
use Rattle.metric_scan.specs.Walks.{ShowsBelow}
use Rattle.query_run.specs.Collection.{picks_in}

-- what a row's pairs pass by ids and by names they pass by ids
pub by_ids : (list : List IdFilter) (filters : List Filter) (g : History) (pairs : List (ℕ × ℕ)) → picks_in list filters g pairs ≡ true → passes list pairs ≡ true
by_ids list filters g pairs e = both (passes list pairs) (suits (name_of g) filters list pairs) e
  where
    both : (a b : Bool) → (a && b) ≡ true → a ≡ true
    both true b e = refl
    both false b e = cc

-- where no test is of text, both are one
module _ (names : Names) (pairs : List (ℕ × ℕ)) where
  plain_suits : (filters : List Filter) (list : List IdFilter) → list_any (λ f. is_of_text f.test) filters ≡ false → suits names filters list pairs ≡ true
  plain_suits [] list plain = refl
  plain_suits (f ∷ filters) [] plain = refl
  plain_suits (f ∷ filters) (by ∷ list) plain =
      let e = neither (is_of_text f.test) (list_any (λ f. is_of_text f.test) filters) plain in
      (λ i. (not (e.0 i) || list_any (pair_passes names by.key f.test) pairs) && suits names filters list pairs) ∙ plain_suits filters list e.1
    where
      neither : (a b : Bool) → (a || b) ≡ false → (a ≡ false) × (b ≡ false)
      neither true b e = cc
      neither false b e = (refl, e)

pub plain_same : (list : List IdFilter) (filters : List Filter) (g : History) (pairs : List (ℕ × ℕ)) → list_any (λ f. is_of_text f.test) filters ≡ false → picks_in list filters g pairs ≡ passes list pairs
plain_same list filters g pairs plain = ap (λ b. passes list pairs && b) (plain_suits (name_of g) pairs filters list plain) ∙ with_true (passes list pairs)
  where
    with_true : (a : Bool) → (a && true) ≡ a
    with_true true = refl
    with_true false = refl

-- what shows all that pass by ids shows all that pass by names too
pub shows_fewer : (list : List IdFilter) (filters : List Filter) (g : History) (widths : Widths) (id start end : ℕ) (own earlier : List Placed) (row : Row) → ShowsBelow (passes list) widths id start end own earlier row → ShowsBelow (picks_in list filters g) widths id start end own earlier row
shows_fewer list filters g widths id start end own earlier row shows h n lawful stand below of wanted has less =
    shows h n lawful stand below of (record { key = wanted.key; is_key = wanted.is_key; row_is = wanted.row_is; wanted = by_ids list filters g wanted.key.pairs.items wanted.wanted }) has less

-- a scan for some rows is one for fewer of them
module _ (wants fewer : Wanting) (within : (key : RowKey) → fewer key ≡ true → wants key ≡ true) where
  not_fewer : (key : RowKey) → wants key ≡ false → fewer key ≡ false
  not_fewer key e = at (fewer key) refl
    where
      at : (b : Bool) → fewer key ≡ b → fewer key ≡ false
      at true is = let w = within key is in cc
      at false is = is

  skips_fewer : (left : Left) (from : List ℕ) → Skips wants left from → Skips fewer left from
  skips_fewer left from s = record { forward = s.forward; over = λ key is in_range. not_fewer key (s.over key is in_range) }

  pub scanned_fewer : {left : Left} {own : List Placed} {founds : List Found} → Scanned wants left own founds → Scanned fewer left own founds
  scanned_fewer (ended next others) = ended next others
  scanned_fewer (found next rest) = found next (scanned_fewer rest)
  scanned_fewer (other is rest) = other is (scanned_fewer rest)
  scanned_fewer (skipped {left} {from} {own} {founds} s rest) = skipped (skips_fewer left from s) (scanned_fewer rest)
