-- The rows of the first cells, and of one more; and all of them in order.
use Rattle.std.proofs.Common.{◌≡◌, ◌⊎◌, inl, inr, ℕ, ◌+◌, ◌<◌, ◌≤◌, true, false, List, [], ◌∷◌, ◌++◌, length, get_or, refl, sym, ap, subst, ◌∙◌, arith}
use Rattle.std.specs.Prelude.{AllPairs, Contains, Some}
use Rattle.std.specs.List.{slice_get}
use Rattle.std.specs.List.Sorted.{IsPermutation, IsSorted}
use Rattle.std.specs.Ordering.{MatchOrdering, nat_cmp, ordering_then}
use Rattle.std.specs.Cmp.{IsTotalOrder, nat_cmp_total, on_total, then_total}
use Rattle.std.specs.Cmp.Lexicographic.{lists_total, slice_cmp}
use Rattle.std.specs.FinMap.{nat_cmp-IsAntisymmetric}
use Rattle.std.specs.declared.cmp.Ordering.{Ordering}
use Rattle.std.specs.declared.cmp.Ordering.TheVariants.{Less, Equal, Greater}
use Rattle.std.proofs.lemmas.Bool.{cases_lt}
use Rattle.std.proofs.lemmas.Cmp.{ranked}
use Rattle.std.proofs.lemmas.List.Elements.{Contains-append_left, Contains-push, Contains-push_cases}
use Rattle.std.proofs.lemmas.List.Sorted.{Contains-permutation, IsPermutation-sym}
use Rattle.std.proofs.lemmas.Option.{slice_get_within}
use Rattle.list_lemmas.proofs.BoolTests.{same_Some}
use Rattle.list_lemmas.proofs.ListMembers.{here, not_in, pairs_in, pairs_tail, split, there}
use Rattle.list_lemmas.proofs.ListParts.{pairs_cons, pairs_push}
use Rattle.tsd_base.specs.declared.kinds.Kind.{Kind}
use Rattle.tsd_base.specs.declared.kinds.Kind.TheVariants.{TagKey}
use Rattle.row_key.specs.declared.keys.RowKey.{RowKey}
use Rattle.row_key.specs.KeyOrder.{pair_cmp}
use Rattle.cell_model.specs.declared.row.ListLine.{ListLine}
use Rattle.cell_model.specs.KindWidths.{Widths, kind_bytes}
use Rattle.cell_model.specs.IdRows.{id_number}
use Rattle.cell_model.proofs.CallerLemmas.{number-bytes}
use Rattle.listing_dump.specs.NameRanks.{IsRank}
use Rattle.listing_dump.specs.RowLines.{begins_row, is_points}
use Rattle.listing_dump.specs.RowPlaces.{AreAllRanks, AreRanked, AreRowPlaces, AreRowsTo, AreTagRanks, HasRankedKey, HasTagRank, HaveRankedKeys, IsKeyOf, IsRanked, IsRowPlace, IsTagRank, row_place_cmp}
use Rattle.listing_dump.specs.declared.name_ranks.NameRanks.{NameRanks}
use Rattle.listing_dump.specs.declared.row_places.RowPlace.{RowPlace}
use Rattle.listing_dump.proofs.Apart.{apart_moved, sorted_rises}
use Rattle.listing_dump.proofs.RowCells.{begins_points}

-- one line is the name of one id
rank_once : (w : Widths) (cells : List ListLine) (kind : Kind) (a b x y : ℕ) → IsRank w cells kind a x → IsRank w cells kind b y → x ≡ y → a ≡ b
rank_once w cells kind a b x y p q e =
    let line : p.line ≡ q.line = same_Some p.line q.line (sym p.there ∙ ap (slice_get cells) e ∙ q.there) in
    let bytes : kind_bytes w kind a ≡ kind_bytes w kind b = sym p.value_is ∙ ap (λ (c : ListLine). c.value) line ∙ q.value_is in
    same_Some a b (sym (number-bytes w kind a p.fits) ∙ ap id_number bytes ∙ number-bytes w kind b q.fits)

-- ---- the ranks of tags

module _ (w : Widths) (cells : List ListLine) (ranks : NameRanks) (are : AreAllRanks w cells ranks) where
  tag_rank : (p r : ℕ × ℕ) → HasTagRank ranks p r → IsTagRank w cells p r
  tag_rank p r h = record { key = are.tag_keys.found p.0 r.0 h.0; value = are.tag_values.found p.1 r.1 h.1 }

  each_ranked : (ps rs : List (ℕ × ℕ)) → AreRanked ranks ps rs → (p : ℕ × ℕ) → Contains ps p → (r : ℕ × ℕ) × Contains rs r × IsTagRank w cells p r
  each_ranked [] rs a p c = absurd (not_in p c)
  each_ranked (q ∷ ps) rs a p c = by (split q p ps c) (each_ranked ps a.1 a.4 p)
    where
      in_rs : (r : ℕ × ℕ) → Contains (a.0 ∷ a.1) r → Contains rs r
      in_rs r d = subst (λ (xs : List (ℕ × ℕ)). Contains xs r) (sym a.2) d

      by : (q ≡ p) ⊎ Contains ps p → (Contains ps p → (r : ℕ × ℕ) × Contains a.1 r × IsTagRank w cells p r) → (r : ℕ × ℕ) × Contains rs r × IsTagRank w cells p r
      by (inl e) go = (a.0, in_rs a.0 (here a.0 a.1), subst (λ (x : ℕ × ℕ). IsTagRank w cells x a.0) e (tag_rank q a.0 a.3))
      by (inr d) go = let r = go d in (r.0, in_rs r.0 (there a.0 r.0 a.1 r.1), r.2)

  back_ranked : (ps rs : List (ℕ × ℕ)) → AreRanked ranks ps rs → (r : ℕ × ℕ) → Contains rs r → (p : ℕ × ℕ) × Contains ps p × IsTagRank w cells p r
  back_ranked [] rs a r c = absurd (not_in r (subst (λ (xs : List (ℕ × ℕ)). Contains xs r) a c))
  back_ranked (q ∷ ps) rs a r c = by (split a.0 r a.1 (subst (λ (xs : List (ℕ × ℕ)). Contains xs r) a.2 c)) (back_ranked ps a.1 a.4 r)
    where
      by : (a.0 ≡ r) ⊎ Contains a.1 r → (Contains a.1 r → (p : ℕ × ℕ) × Contains ps p × IsTagRank w cells p r) → (p : ℕ × ℕ) × Contains (q ∷ ps) p × IsTagRank w cells p r
      by (inl e) go = (q, here q ps, subst (IsTagRank w cells q) e (tag_rank q a.0 a.3))
      by (inr d) go = let p = go d in (p.0, there q p.0 ps p.1, p.2)

  abbrev pub Apart : ℕ × ℕ → ℕ × ℕ → Type 0
  Apart a b = a.0 ≡ b.0 → ⊥

  ranked_apart : (ps rs : List (ℕ × ℕ)) → AllPairs (λ (p q : ℕ × ℕ). p.0 < q.0) ps → AreRanked ranks ps rs → AllPairs Apart rs
  ranked_apart [] rs up a = subst (AllPairs Apart) (sym a) (λ i j d low lt. absurd (omega (arith, lt)))
  ranked_apart (p ∷ ps) rs up a =
      subst (AllPairs Apart) (sym a.2)
      (pairs_cons Apart a.0 a.1
      (λ r c same.
      let q = back_ranked ps a.1 a.4 r c in
      let low = pairs_in (λ (x y : ℕ × ℕ). x.0 < y.0) p q.0 ps up q.1 in
      let one = rank_once w cells TagKey p.0 q.0.0 a.0.0 r.0 (tag_rank p a.0 a.3).key q.2.key same in
      absurd (omega (arith, low, one)))
      (ranked_apart ps a.1 (pairs_tail (λ (x y : ℕ × ℕ). x.0 < y.0) p ps up) a.4))

  pair_total : IsTotalOrder pair_cmp
  pair_total = then_total (on_total (λ (p : ℕ × ℕ). p.0) nat_cmp_total) (on_total (λ (p : ℕ × ℕ). p.1) nat_cmp_total)

  first_equal : (a b : Ordering) → ordering_then a b ≡ Equal → a ≡ Equal
  first_equal Less b e = absurd cc
  first_equal Equal b e = refl
  first_equal Greater b e = absurd cc

  first_less : (p q : ℕ × ℕ) → pair_cmp p q ≡ Less → Apart p q → p.0 < q.0
  first_less p q lt apart = by (nat_cmp p.0 q.0) refl (ranked p.0 q.0 (nat_cmp p.0 q.0) refl) lt
    where
      by : (o : Ordering) → nat_cmp p.0 q.0 ≡ o → MatchOrdering o (p.0 < q.0) (p.0 ≡ q.0) (q.0 < p.0) → ordering_then o (nat_cmp p.1 q.1) ≡ Less → p.0 < q.0
      by Less e m l = m
      by Equal e m l = absurd (apart m)
      by Greater e m l = absurd cc

  tags_ranked : (ps rs sorted : List (ℕ × ℕ)) → AllPairs (λ (p q : ℕ × ℕ). p.0 < q.0) ps → AreRanked ranks ps rs → IsPermutation rs sorted → IsSorted pair_cmp sorted → AreTagRanks w cells ps sorted
  tags_ranked ps rs sorted up a moved order = record {
    rising = λ i j d low lt. first_less (get_or sorted i d) (get_or sorted j d) (rise i j d low lt) (apart i j d low lt);
    each = λ p c. let r = each_ranked ps rs a p c in (r.0, Contains-permutation rs sorted r.0 moved r.1, r.2);
    back = λ r c. back_ranked ps rs a r (Contains-permutation sorted rs r (IsPermutation-sym rs sorted moved) c);
  }
    where
      apart : AllPairs Apart sorted
      apart = apart_moved (λ (p : ℕ × ℕ). p.0) rs sorted moved (ranked_apart ps rs up a)

      rise : AllPairs (λ (p q : ℕ × ℕ). pair_cmp p q ≡ Less) sorted
      rise = sorted_rises (λ (p : ℕ × ℕ). p.0) pair_cmp pair_total (λ p q e. nat_cmp-IsAntisymmetric p.0 q.0 (first_equal (nat_cmp p.0 q.0) (nat_cmp p.1 q.1) e)) sorted order apart

  -- ---- rows

  -- a row by its ranks is one among the cells
  pub place_ranked : (at : ℕ) (l : ListLine) (key : RowKey) (r : RowPlace) → slice_get cells at ≡ Some l → begins_row cells at l ≡ true → IsKeyOf w l.row key → IsRanked ranks key at r → IsRowPlace w cells r
  place_ranked at l key r isl begins is by = record {
    line = l;
    there = ap (slice_get cells) by.line_is ∙ isl;
    begins = subst (λ (n : ℕ). begins_row cells n l ≡ true) (sym by.line_is) begins;
    key = key;
    is_key = is.0;
    row_is = is.1;
    base_is = by.base;
    metric = are.metrics.found key.metric r.metric by.metric;
    tags = tags_ranked key.pairs.items by.tags r.tags.items is.0.rising by.ranked by.moved by.sorted;
  }

-- a row that begins on the next line is added
pub row_added : (w : Widths) (cells : List ListLine) (rows : List RowPlace) (r : RowPlace) (at : ℕ) → r.line ≡ at → IsRowPlace w cells r → AreRowsTo w cells rows at → AreRowsTo w cells (rows ++ r ∷ []) (at + 1)
row_added w cells rows r at line is was = record {
  each = λ q c. each q (Contains-push_cases rows r q c);
  all = λ n l isl lt begins. all n l isl lt begins (cases_lt n at);
  rising = pairs_push (λ (a b : RowPlace). a.line < b.line) rows r was.rising (λ q c. let lt = (was.each q c).1 in omega (arith, lt, line));
}
  where
    each : (q : RowPlace) → Contains rows q ⊎ (r ≡ q) → IsRowPlace w cells q × (q.line < at + 1)
    each q (inl c) = let x = was.each q c in (x.0, (let lt = x.1 in omega (arith, lt)))
    each q (inr e) = (subst (IsRowPlace w cells) e is, (let same = ap (λ (z : RowPlace). z.line) e in omega (arith, line, same)))

    all : (n : ℕ) (l : ListLine) → slice_get cells n ≡ Some l → n < at + 1 → begins_row cells n l ≡ true → (n < at) ⊎ (at ≤ n) → (q : RowPlace) × Contains (rows ++ r ∷ []) q × (q.line ≡ n)
    all n l isl lt begins (inl low) = let q = was.all n l isl low begins in (q.0, Contains-append_left rows (r ∷ []) q.0 q.1, q.2)
    all n l isl lt begins (inr high) = (r, Contains-push rows r, (let e : r.line ≡ n = omega (arith, lt, high, line) in e))

pub row_pushed : (w : Widths) (cells : List ListLine) (rows new : List RowPlace) (r : RowPlace) (at : ℕ) → r.line ≡ at → IsRowPlace w cells r → AreRowsTo w cells rows at → new ≡ rows ++ r ∷ [] → AreRowsTo w cells new (at + 1)
row_pushed w cells rows new r at line is was e = subst (λ (rs : List RowPlace). AreRowsTo w cells rs (at + 1)) (sym e) (row_added w cells rows r at line is was)

-- no row begins there
pub row_passed : (w : Widths) (cells : List ListLine) (rows new : List RowPlace) (at : ℕ) → ((l : ListLine) → slice_get cells at ≡ Some l → begins_row cells at l ≡ false) → AreRowsTo w cells rows at → new ≡ rows → AreRowsTo w cells new (at + 1)
row_passed w cells rows new at nay was e = subst (λ (rs : List RowPlace). AreRowsTo w cells rs (at + 1)) (sym e) (record {
  each = λ q c. let x = was.each q c in (x.0, (let lt = x.1 in omega (arith, lt)));
  all = λ n m ism lt begins. all n m ism lt begins (cases_lt n at);
  rising = was.rising;
})
  where
    all : (n : ℕ) (m : ListLine) → slice_get cells n ≡ Some m → n < at + 1 → begins_row cells n m ≡ true → (n < at) ⊎ (at ≤ n) → (q : RowPlace) × Contains rows q × (q.line ≡ n)
    all n m ism lt begins (inl low) = was.all n m ism low begins
    all n m ism lt begins (inr high) =
        let last : n ≡ at = omega (arith, lt, high) in
        let so : begins_row cells at m ≡ true = ap (λ (k : ℕ). begins_row cells k m) (sym last) ∙ begins in
        let e : true ≡ false = sym so ∙ nay m (ap (slice_get cells) (sym last) ∙ ism) in absurd cc

-- the key of a row that begins there has ranks
pub row_ranked : (w : Widths) (cells : List ListLine) (ranks : NameRanks) (at : ℕ) (l : ListLine) (bytes : List ℕ) → HaveRankedKeys w cells ranks → slice_get cells at ≡ Some l → begins_row cells at l ≡ true → bytes ≡ l.row → HasRankedKey w ranks bytes
row_ranked w cells ranks at l bytes have isl begins e = subst (HasRankedKey w ranks) (sym e) (have at l isl (ap is_points (begins_points cells at l begins)))

row_total : IsTotalOrder row_place_cmp
row_total =
    then_total (on_total (λ (r : RowPlace). r.metric) nat_cmp_total)
    (then_total (on_total (λ (r : RowPlace). r.tags.items) (lists_total (then_total (on_total (λ (p : ℕ × ℕ). p.0) nat_cmp_total) (on_total (λ (p : ℕ × ℕ). p.1) nat_cmp_total))))
    (then_total (on_total (λ (r : RowPlace). r.base) nat_cmp_total) (on_total (λ (r : RowPlace). r.line) nat_cmp_total)))

-- in order they are all rows
pub rows_sorted : (w : Widths) (cells : List ListLine) (rows sorted : List RowPlace) → AreRowsTo w cells rows (length cells) → IsPermutation rows sorted → IsSorted row_place_cmp sorted → AreRowPlaces w cells sorted
rows_sorted w cells rows sorted are moved order = record {
  each = λ r c. (are.each r (Contains-permutation sorted rows r (IsPermutation-sym rows sorted moved) c)).0;
  all = λ at l isl begins. let q = are.all at l isl (slice_get_within cells at l isl) begins in (q.0, Contains-permutation rows sorted q.0 moved q.1, q.2);
  rising = sorted_rises (λ (r : RowPlace). r.line) row_place_cmp row_total (λ p q e. tied p q e) sorted order
      (apart_moved (λ (r : RowPlace). r.line) rows sorted moved (λ i j d low lt same. let up = are.rising i j d low lt in absurd (omega (arith, up, same))));
}
  where
    last : (a b c d : Ordering) → ordering_then a (ordering_then b (ordering_then c d)) ≡ Equal → d ≡ Equal
    last Equal Equal Equal d e = e
    last Less b c d e = absurd cc
    last Greater b c d e = absurd cc
    last Equal Less c d e = absurd cc
    last Equal Greater c d e = absurd cc
    last Equal Equal Less d e = absurd cc
    last Equal Equal Greater d e = absurd cc

    tied : (p q : RowPlace) → row_place_cmp p q ≡ Equal → p.line ≡ q.line
    tied p q e = nat_cmp-IsAntisymmetric p.line q.line (last (nat_cmp p.metric q.metric) (slice_cmp pair_cmp p.tags.items q.tags.items) (nat_cmp p.base q.base) (nat_cmp p.line q.line) e)
