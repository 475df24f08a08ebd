-- A count that is added to those of series.
use Rattle.std.proofs.Common.{◌≡◌, ℕ, ◌+◌, Bool, true, false, cond, List, refl, sym, ap, ◌∙◌, arith}
use Rattle.std.specs.Prelude.{Option, None, Some, unwrap_or}
use Rattle.std.specs.BTreeMap.{BTreeMap, get}
use Rattle.std.specs.Ordering.{eq_by_cmp}
use Rattle.span_merge.specs.Spans.{pairs_cmp}
use Rattle.series_meta.specs.SeriesCounts.{AddsCount}
use Rattle.series_meta.proofs.TimeLists.{same_pairs}

abbrev Counts : Type 0
Counts = BTreeMap (List (ℕ × ℕ)) ℕ

module _ (old new : Counts) (pairs : List (ℕ × ℕ)) (count more : ℕ) (now : (q : List (ℕ × ℕ)) → get pairs_cmp new q ≡ cond (eq_by_cmp pairs_cmp pairs q) (Some more) (get pairs_cmp old q)) where
  adds_to : (before : Option ℕ) → get pairs_cmp old pairs ≡ before → more ≡ unwrap_or before 0 + count → AddsCount old pairs count new
  adds_to before was is q = now q ∙ at (eq_by_cmp pairs_cmp pairs q) refl
    where
      at : (b : Bool) → eq_by_cmp pairs_cmp pairs q ≡ b → cond b (Some more) (get pairs_cmp old q) ≡ cond b (Some (unwrap_or (get pairs_cmp old q) 0 + count)) (get pairs_cmp old q)
      at true e = ap (λ n. Some n) (is ∙ ap (λ o. unwrap_or o 0 + count) (sym was ∙ ap (get pairs_cmp old) (same_pairs pairs q e)))
      at false e = refl

  -- to one that was there
  pub adds_behind : (sum : ℕ) → get pairs_cmp old pairs ≡ Some sum → more ≡ sum + count → AddsCount old pairs count new
  adds_behind sum was is = adds_to (Some sum) was is

  -- where there was none
  pub adds_none : get pairs_cmp old pairs ≡ None → more ≡ 0 + count → AddsCount old pairs count new
  adds_none was is = adds_to None was is

pub adds_first : (old new : Counts) (pairs : List (ℕ × ℕ)) (count : ℕ) → ((q : List (ℕ × ℕ)) → get pairs_cmp new q ≡ cond (eq_by_cmp pairs_cmp pairs q) (Some count) (get pairs_cmp old q)) → get pairs_cmp old pairs ≡ None → AddsCount old pairs count new
adds_first old new pairs count now was = adds_none old new pairs count count now was (omega arith)
