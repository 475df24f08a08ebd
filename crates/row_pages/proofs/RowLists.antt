-- Rows in one list, in order: one more, one with other cells, one less, and those on a side of some bytes.
use Rattle.std.proofs.Common.{◌≡◌, ℕ, ◌+◌, Bool, true, false, cond, not, T, List, [], ◌∷◌, ◌++◌, length, Option, None, Some, refl, sym, ap, ◌∙◌, arith}
use Rattle.std.specs.Prelude.{is_some}
use Rattle.std.specs.declared.cmp.Ordering.TheVariants.{Equal}
use Rattle.std.specs.Ordering.{is_gt, eq_by_cmp}
use Rattle.std.specs.Cmp.{tied_itself, eq_by_cmp_equiv}
use Rattle.std.specs.Cmp.Lexicographic.{nat_list_cmp_total}
use Rattle.std.specs.FinMap.{IsAntisymmetric, slice_cmp-IsAntisymmetric, nat_cmp-IsAntisymmetric, get, insert, remove, empty, from_sorted, find, put, is_sorted, get-from_sorted, get-remove, get-empty, entries-from_sorted, entries-insert, same_map, same_entries_map}
use Rattle.std.specs.FinMap.Entries.{below_all, is_sorted-put, is_sorted-where_key, find-where_key, length-put, length_without}
use Rattle.list_lemmas.specs.BytesOrder.{bytes_cmp}
use Rattle.list_lemmas.proofs.BoolTests.{T_left, T_right, T_both, T_less, is_equal}
use Rattle.list_lemmas.proofs.EntryLemmas.{put-between, find-between, find-behind, before-below}
use Rattle.packed_cells.specs.Keyed.{CellMap}
use Rattle.row_pages.specs.RowMaps.{rows_below, rows_from}
use Rattle.row_pages.specs.PagePlaces.{AllBelow, AllAbove, AllFrom, without}

pub exact : IsAntisymmetric bytes_cmp
exact = slice_cmp-IsAntisymmetric nat_cmp-IsAntisymmetric

itself : (k : List ℕ) → bytes_cmp k k ≡ Equal
itself k = tied_itself nat_list_cmp_total k

-- parts of rows in order
below_front : (k : List ℕ) (xs ys : List (List ℕ × CellMap)) → T (below_all bytes_cmp k (xs ++ ys)) → T (below_all bytes_cmp k xs)
below_front k [] ys h = tt
below_front k (x ∷ xs) ys h = T_both _ _ (T_left _ _ h) (below_front k xs ys (T_right _ _ h))

pub sorted_front : (xs ys : List (List ℕ × CellMap)) → T (is_sorted bytes_cmp (xs ++ ys)) → T (is_sorted bytes_cmp xs)
sorted_front [] ys h = tt
sorted_front (x ∷ xs) ys h = T_both _ _ (below_front x.0 xs ys (T_left _ _ h)) (sorted_front xs ys (T_right _ _ h))

pub sorted_back : (xs ys : List (List ℕ × CellMap)) → T (is_sorted bytes_cmp (xs ++ ys)) → T (is_sorted bytes_cmp ys)
sorted_back [] ys h = h
sorted_back (x ∷ xs) ys h = sorted_back xs ys (T_right _ _ h)

-- what stands before a row is below it, and what stands behind it above
all_above : (k : List ℕ) (xs : List (List ℕ × CellMap)) → T (below_all bytes_cmp k xs) → AllAbove k xs
all_above k [] h = tt
all_above k (x ∷ xs) h = (T_less _ (T_left _ _ h), all_above k xs (T_right _ _ h))

pub before_row : (xs : List (List ℕ × CellMap)) (e : List ℕ × CellMap) (ys : List (List ℕ × CellMap)) → T (is_sorted bytes_cmp (xs ++ e ∷ ys)) → AllBelow e.0 xs
before_row xs e ys h = before-below bytes_cmp nat_list_cmp_total e.0 xs e ys h (ap is_gt (itself e.0))

pub behind_row : (xs : List (List ℕ × CellMap)) (e : List ℕ × CellMap) (ys : List (List ℕ × CellMap)) → T (is_sorted bytes_cmp (xs ++ e ∷ ys)) → AllAbove e.0 ys
behind_row xs e ys h = all_above e.0 ys (T_left _ _ (sorted_back xs (e ∷ ys) h))

-- a row is found where it stands, and not where it would go
pub found : (xs : List (List ℕ × CellMap)) (e : List ℕ × CellMap) (ys : List (List ℕ × CellMap)) → T (is_sorted bytes_cmp (xs ++ e ∷ ys)) → find bytes_cmp e.0 (xs ++ e ∷ ys) ≡ Some e.1
found xs e ys h = find-behind bytes_cmp e.0 xs e ys (before_row xs e ys h) (itself e.0)

pub not_found : (k : List ℕ) (xs ys : List (List ℕ × CellMap)) → AllBelow k xs → AllAbove k ys → find bytes_cmp k (xs ++ ys) ≡ None
not_found k xs ys below above = find-between bytes_cmp k xs ys below above

none_by : (b : Bool) (x : CellMap) (o : Option CellMap) → cond b (Some x) o ≡ None → (b ≡ false) × (o ≡ None)
none_by true x o e = absurd cc
none_by false x o e = (refl, e)

pub absent_back : (k : List ℕ) (xs ys : List (List ℕ × CellMap)) → find bytes_cmp k (xs ++ ys) ≡ None → find bytes_cmp k ys ≡ None
absent_back k [] ys none = none
absent_back k (x ∷ xs) ys none = absent_back k xs ys (none_by (eq_by_cmp bytes_cmp k x.0) x.1 (find bytes_cmp k (xs ++ ys)) none).1

pub absent_front : (k : List ℕ) (xs ys : List (List ℕ × CellMap)) → find bytes_cmp k (xs ++ ys) ≡ None → find bytes_cmp k xs ≡ None
absent_front k [] ys none = refl
absent_front k (x ∷ xs) ys none =
    let parts = none_by (eq_by_cmp bytes_cmp k x.0) x.1 (find bytes_cmp k (xs ++ ys)) none in
    ap (λ b. cond b (Some x.1) (find bytes_cmp k xs)) parts.0 ∙ absent_front k xs ys parts.1

-- one more row
pub one_more : (k : List ℕ) (cells : CellMap) (xs ys : List (List ℕ × CellMap)) → AllBelow k xs → AllAbove k ys → put bytes_cmp k cells (xs ++ ys) ≡ xs ++ (k, cells) ∷ ys
one_more k cells xs ys below above = put-between bytes_cmp k cells xs ys below above

-- a row with other cells
pub put_over : (xs : List (List ℕ × CellMap)) (k : List ℕ) (old cells : CellMap) (ys : List (List ℕ × CellMap)) → AllBelow k xs → put bytes_cmp k cells (xs ++ (k, old) ∷ ys) ≡ xs ++ (k, cells) ∷ ys
put_over [] k old cells ys below = rw (itself k) refl
put_over (x ∷ xs) k old cells ys below = rw below.0 (ap (λ (es : List (List ℕ × CellMap)). x ∷ es) (put_over xs k old cells ys below.1))

-- the map of changed rows
pub put_sorted : (k : List ℕ) (cells : CellMap) (es : List (List ℕ × CellMap)) → T (is_sorted bytes_cmp es) → T (is_sorted bytes_cmp (put bytes_cmp k cells es))
put_sorted k cells es h = is_sorted-put bytes_cmp nat_list_cmp_total k cells es h

pub put_map : (k : List ℕ) (cells : CellMap) (es fs : List (List ℕ × CellMap)) → T (is_sorted bytes_cmp es) → fs ≡ put bytes_cmp k cells es → from_sorted {R = bytes_cmp} fs ≡ insert (from_sorted es) k cells
put_map k cells es fs h is = ap from_sorted is ∙ same_entries_map _ _
    (entries-from_sorted bytes_cmp (put bytes_cmp k cells es) (put_sorted k cells es h)
    ∙ ap (put bytes_cmp k cells) (sym (entries-from_sorted bytes_cmp es h)) ∙ sym (entries-insert nat_list_cmp_total (from_sorted es) k cells))

pub put_count : (k : List ℕ) (cells : CellMap) (es : List (List ℕ × CellMap)) → T (is_sorted bytes_cmp es) → find bytes_cmp k es ≡ None → length (put bytes_cmp k cells es) ≡ length es + 1
put_count k cells es h none = length-put bytes_cmp nat_list_cmp_total k cells es h ∙ ap (λ (o : Option CellMap). cond (is_some o) (length es) (length es + 1)) none

-- one row less
all_stay : (k : List ℕ) (xs : List (List ℕ × CellMap)) → AllAbove k xs → without k xs ≡ xs
all_stay k [] above = refl
all_stay k (x ∷ xs) above = rw above.0 (ap (λ (es : List (List ℕ × CellMap)). x ∷ es) (all_stay k xs above.1))

pub taken_out : (xs : List (List ℕ × CellMap)) (e : List ℕ × CellMap) (ys : List (List ℕ × CellMap)) → AllBelow e.0 xs → AllAbove e.0 ys → without e.0 (xs ++ e ∷ ys) ≡ xs ++ ys
taken_out [] e ys below above = rw (itself e.0) (all_stay e.0 ys above)
taken_out (x ∷ xs) e ys below above = rw below.0 (ap (λ (es : List (List ℕ × CellMap)). x ∷ es) (taken_out xs e ys below.1 above))

pub without_sorted : (k : List ℕ) (es : List (List ℕ × CellMap)) → T (is_sorted bytes_cmp es) → T (is_sorted bytes_cmp (without k es))
without_sorted k es h = is_sorted-where_key bytes_cmp (λ x. not (eq_by_cmp bytes_cmp k x)) es h

alike : (k q x : List ℕ) → bytes_cmp q x ≡ Equal → not (eq_by_cmp bytes_cmp k x) ≡ not (eq_by_cmp bytes_cmp k q)
alike k q x e = ap (λ (y : List ℕ). not (eq_by_cmp bytes_cmp k y)) (sym (exact q x e))

turned : {A : Type 0} (b : Bool) (x y : A) → cond (not b) x y ≡ cond b y x
turned true x y = refl
turned false x y = refl

same_test : (k q : List ℕ) → eq_by_cmp bytes_cmp k q ≡ eq_by_cmp bytes_cmp q k
same_test k q = (eq_by_cmp_equiv nat_list_cmp_total).symm k q

pub without_map : (k : List ℕ) (es fs : List (List ℕ × CellMap)) → T (is_sorted bytes_cmp es) → fs ≡ without k es → from_sorted {R = bytes_cmp} fs ≡ remove (from_sorted es) k
without_map k es fs h is = ap from_sorted is ∙ same_map nat_list_cmp_total exact _ _ (λ q.
    get-from_sorted bytes_cmp (without k es) q (without_sorted k es h)
    ∙ find-where_key bytes_cmp (λ x. not (eq_by_cmp bytes_cmp k x)) q (alike k q) es
    ∙ turned (eq_by_cmp bytes_cmp k q) _ _
    ∙ (λ i. cond (same_test k q i) None (sym (get-from_sorted bytes_cmp es q h) i))
    ∙ sym (get-remove nat_list_cmp_total (from_sorted es) k q))

pub without_count : (k : List ℕ) (cells : CellMap) (es : List (List ℕ × CellMap)) → T (is_sorted bytes_cmp es) → find bytes_cmp k es ≡ Some cells → length (without k es) + 1 ≡ length es
without_count k cells es h some =
    let all = length_without bytes_cmp nat_list_cmp_total k es h in
    let one : ◌≡◌ {A = ℕ} (cond (is_some (find bytes_cmp k es)) 1 0) 1 = ap (λ (o : Option CellMap). cond (is_some o) 1 0) some in
    omega (arith, all, one)

-- the map of rows that lack one is as it is without it
pub absent_map : (k : List ℕ) (es : List (List ℕ × CellMap)) → T (is_sorted bytes_cmp es) → find bytes_cmp k es ≡ None → from_sorted {R = bytes_cmp} es ≡ remove (from_sorted es) k
absent_map k es h none = same_map nat_list_cmp_total exact _ _ (λ q. at q (eq_by_cmp bytes_cmp q k) refl ∙ sym (get-remove nat_list_cmp_total (from_sorted es) k q))
  where
    at : (q : List ℕ) (b : Bool) → eq_by_cmp bytes_cmp q k ≡ b → get (from_sorted {R = bytes_cmp} es) q ≡ cond (eq_by_cmp bytes_cmp q k) None (get (from_sorted {R = bytes_cmp} es) q)
    at q true e = get-from_sorted bytes_cmp es q h ∙ ap (λ (x : List ℕ). find bytes_cmp x es) (exact q k (is_equal _ e)) ∙ none ∙ ap (λ b. cond b None (get (from_sorted {R = bytes_cmp} es) q)) (sym e)
    at q false e = ap (λ b. cond b None (get (from_sorted {R = bytes_cmp} es) q)) (sym e)

-- the rows on a side of some bytes
none_from : (k : List ℕ) (xs ys : List (List ℕ × CellMap)) → AllBelow k xs → rows_from k (xs ++ ys) ≡ rows_from k ys
none_from k [] ys below = refl
none_from k (x ∷ xs) ys below = rw below.0 (none_from k xs ys below.1)

all_from : (k : List ℕ) (ys : List (List ℕ × CellMap)) → AllFrom k ys → rows_from k ys ≡ ys
all_from k [] behind = refl
all_from k (y ∷ ys) behind = rw behind.0 (ap (λ (es : List (List ℕ × CellMap)). y ∷ es) (all_from k ys behind.1))

pub from_start : (k : List ℕ) (xs ys : List (List ℕ × CellMap)) → AllBelow k xs → AllFrom k ys → rows_from k (xs ++ ys) ≡ ys
from_start k xs ys below behind = none_from k xs ys below ∙ all_from k ys behind

none_below : (k : List ℕ) (ys : List (List ℕ × CellMap)) → AllFrom k ys → rows_below k ys ≡ []
none_below k [] behind = refl
none_below k (y ∷ ys) behind = rw behind.0 (none_below k ys behind.1)

pub below_start : (k : List ℕ) (xs ys : List (List ℕ × CellMap)) → AllBelow k xs → AllFrom k ys → rows_below k (xs ++ ys) ≡ xs
below_start k [] ys below behind = none_below k ys behind
below_start k (x ∷ xs) ys below behind = rw below.0 (ap (λ (es : List (List ℕ × CellMap)). x ∷ es) (below_start k xs ys below.1 behind))

pub no_rows : from_sorted {X = CellMap} {R = bytes_cmp} [] ≡ empty
no_rows = same_map nat_list_cmp_total exact _ _ (λ q. get-from_sorted bytes_cmp [] q tt ∙ sym (get-empty bytes_cmp q))

pub put_over_count : (k : List ℕ) (cells old : CellMap) (es : List (List ℕ × CellMap)) → T (is_sorted bytes_cmp es) → find bytes_cmp k es ≡ Some old → length (put bytes_cmp k cells es) ≡ length es
put_over_count k cells old es h some = length-put bytes_cmp nat_list_cmp_total k cells es h ∙ ap (λ (o : Option CellMap). cond (is_some o) (length es) (length es + 1)) some
