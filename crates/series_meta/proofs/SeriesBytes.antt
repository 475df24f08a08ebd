-- The identifier of a series as a row without its hour.
use Rattle.std.proofs.Common.{◌≡◌, ℕ, ◌+◌, ◌≤◌, List, ◌++◌, length, take, drop, sym, ap, ap₂, subst, ◌∙◌, append_assoc, length-append, arith}
use Rattle.std.proofs.Math.Seq.{take-append_seam, drop-append_seam}
use Rattle.std.specs.Prelude.{Result, IfOk}
use Rattle.std.specs.Int.{w32, to_be_bytes}
use Rattle.std.specs.List.{flat_map}
use Rattle.std.specs.declared.alloc.AllocError.{AllocError}
use Rattle.row_key.specs.declared.widths.Widths.{Widths}
use Rattle.row_key.specs.declared.keys.RowKey.{RowKey}
use Rattle.row_key.specs.Key.{IsKey, id_bytes, pair_bytes, key_bytes}
use Rattle.row_key.proofs.CallerLemmas.{key_fits, key_length, length_bytes}
use Rattle.series_meta.specs.SeriesRows.{series_id}

module _ (w : Widths) (key : RowKey) (row list : List ℕ) (same : list ≡ row) (row_is : row ≡ key_bytes w key) where
  pub id_least : w.metric + 4 ≤ length list
  id_least =
      let e = ap (λ (l : List ℕ). length l) (same ∙ row_is) in
      let n = key_length w key in
      omega (arith, e, n)

  pub id_most : IsKey w key → length list ≤ 72
  id_most is =
      let e = ap (λ (l : List ℕ). length l) (same ∙ row_is) in
      let n = key_fits w key is in
      omega (arith, e, n)

  front_is : take w.metric (key_bytes w key) ≡ id_bytes w.metric key.metric
  front_is =
      let f = id_bytes w.metric key.metric in
      let later = to_be_bytes w32 key.base ++ flat_map (pair_bytes w) key.pairs.items in
      ap (take w.metric) (append_assoc f (to_be_bytes w32 key.base) (flat_map (pair_bytes w) key.pairs.items)) ∙ ap (λ n. take n (f ++ later)) (sym (length_bytes w.metric key.metric)) ∙ take-append_seam f later

  rest_is : drop (w.metric + 4) (key_bytes w key) ≡ flat_map (pair_bytes w) key.pairs.items
  rest_is =
      let hour = id_bytes w.metric key.metric ++ to_be_bytes w32 key.base in
      let tail = flat_map (pair_bytes w) key.pairs.items in
      let long : length hour ≡ w.metric + 4 = length-append (id_bytes w.metric key.metric) (to_be_bytes w32 key.base) ∙ ap (λ n. n + 4) (length_bytes w.metric key.metric) in
      ap (λ n. drop n (hour ++ tail)) (sym long) ∙ drop-append_seam hour tail

  both : take w.metric list ++ drop (w.metric + 4) list ≡ series_id w key
  both = ap (λ (l : List ℕ). take w.metric l ++ drop (w.metric + 4) l) (same ∙ row_is) ∙ ap₂ (λ (xs ys : List ℕ). xs ++ ys) front_is rest_is

  pub id_is : (result : Result (List ℕ) AllocError) → IfOk result (λ made. made ≡ take w.metric list ++ drop (w.metric + 4) list) → IfOk result (λ made. made ≡ series_id w key)
  id_is result ok = subst (λ (l : List ℕ). IfOk result (λ made. made ≡ l)) both ok
