-- The finite map of a table's rows after a change.
use Rattle.std.proofs.Common.{◌≡◌, ◌≢◌, ◌⊎◌, inl, inr, ℕ, ◌+◌, Bool, true, false, cond, T, List, [], ◌∷◌, ◌++◌, refl, sym, ap, subst, ◌∙◌, arith}
use Rattle.std.specs.Prelude.{Option, None, Some, unwrap_or, is_some, Result, Ok, Err, OnErr}
use Rattle.std.specs.declared.cmp.Ordering.{Ordering}
use Rattle.std.specs.declared.cmp.Ordering.TheVariants.{Less, Equal, Greater}
use Rattle.std.specs.Ordering.{eq_by_cmp, is_eq}
use Rattle.std.specs.Cmp.{tied_itself}
use Rattle.std.specs.Cmp.Lexicographic.{nat_list_cmp_total}
use Rattle.std.proofs.lemmas.List.{nil_from_length}
use Rattle.std.proofs.lemmas.List.Sums.{sum_by-cons}
use Rattle.std.specs.FinMap.{find, put, is_sorted, entries, from_entries, from_sorted, empty, insert, remove, get, get-empty, get-entries, get-insert, get-remove, get-from_entries, get-from_sorted, entries-insert, entries-from_sorted, same_map, slice_cmp-IsAntisymmetric, nat_cmp-IsAntisymmetric, IsAntisymmetric, len, len-entries, len-insert, len-empty}
use Rattle.std.specs.FinMap.Entries.{by_order}
use Rattle.list_lemmas.proofs.BoolTests.{is_equal}
use Rattle.list_lemmas.specs.BytesOrder.{bytes_cmp}
use Rattle.qual_codec.specs.CellDots.{column_qual}
use Rattle.packed_cells.specs.Keyed.{CellMap, appended, bytes_there}
use Rattle.row_pages.specs.RowMaps.{Rows}
use Rattle.map_body.specs.TableRows.{count_of, cells_among, row_in, NoneEmpty, ChangesRow}

pub exact : IsAntisymmetric bytes_cmp
exact = slice_cmp-IsAntisymmetric nat_cmp-IsAntisymmetric

pub tied : (q : List ℕ) → eq_by_cmp bytes_cmp q q ≡ true
tied q = ap is_eq (tied_itself nat_list_cmp_total q)

pub untied : (p q : List ℕ) → p ≢ q → eq_by_cmp bytes_cmp p q ≡ false
untied p q ne = at (eq_by_cmp bytes_cmp p q) refl
  where
    at : (b : Bool) → eq_by_cmp bytes_cmp p q ≡ b → b ≡ false
    at true e = absurd (ne (exact p q (is_equal _ e)))
    at false e = refl

pub same_or_not : (p q : List ℕ) → (p ≡ q) ⊎ (p ≢ q)
same_or_not p q = at (eq_by_cmp bytes_cmp p q) refl
  where
    at : (b : Bool) → eq_by_cmp bytes_cmp p q ≡ b → (p ≡ q) ⊎ (p ≢ q)
    at true e = inl (exact p q (is_equal _ e))
    at false e = inr (λ same. let t : true ≡ false = sym (tied q) ∙ ap (λ x. eq_by_cmp bytes_cmp x q) (sym same) ∙ e in cc)

pub no_some : {X : Type 0} (x : X) → None ≡ Some x → ⊥
no_some x h = cc

pub entries_sorted_list : {X : Type 0} (es : List (List ℕ × X)) → T (is_sorted bytes_cmp es) → entries (from_entries {R = bytes_cmp} es) ≡ es
entries_sorted_list es up =
    ap entries (same_map nat_list_cmp_total exact (from_entries es) (from_sorted es) (λ q. get-from_entries nat_list_cmp_total es q ∙ sym (get-from_sorted bytes_cmp es q up)))
    ∙ entries-from_sorted bytes_cmp es up

-- what stands at a row of a changed map
pub row_set : (rows : Rows) (k : List ℕ) (cells : CellMap) → row_in (insert rows k cells) k ≡ cells
row_set rows k cells = ap (λ o. unwrap_or o empty) (get-insert nat_list_cmp_total rows k cells k ∙ ap (λ b. cond b (Some cells) (get rows k)) (tied k))

pub row_set_other : (rows : Rows) (k q : List ℕ) (cells : CellMap) → q ≢ k → row_in (insert rows k cells) q ≡ row_in rows q
row_set_other rows k q cells ne = ap (λ o. unwrap_or o empty) (get-insert nat_list_cmp_total rows k cells q ∙ ap (λ b. cond b (Some cells) (get rows q)) (untied q k ne))

pub inserted : (old new : Rows) (k : List ℕ) (cells : CellMap) → new ≡ insert old k cells → ChangesRow old new k cells
inserted old new k cells is = record {
  here = ap (λ r. row_in r k) is ∙ row_set old k cells;
  others = λ q ne. ap (λ r. row_in r q) is ∙ row_set_other old k q cells ne;
}

pub removed : (old new : Rows) (k : List ℕ) → new ≡ remove old k → ChangesRow old new k empty
removed old new k is = record {
  here = ap (λ o. unwrap_or o empty) (ap (λ r. get r k) is ∙ get-remove nat_list_cmp_total old k k ∙ ap (λ b. cond b None (get old k)) (tied k));
  others = λ q ne. ap (λ o. unwrap_or o empty) (ap (λ r. get r q) is ∙ get-remove nat_list_cmp_total old k q ∙ ap (λ b. cond b None (get old q)) (untied q k ne));
}

-- no row is empty after a write of cells, or without a row
pub none_empty_set : (old new : Rows) (k : List ℕ) (cells : CellMap) → NoneEmpty old → cells ≢ empty → new ≡ insert old k cells → NoneEmpty new
none_empty_set old new k cells none some is q found e = at (same_or_not q k)
  where
    got : get (insert old k cells) q ≡ Some found
    got = ap (λ r. get r q) (sym is) ∙ e

    at : (q ≡ k) ⊎ (q ≢ k) → found ≢ empty
    at (inl same) =
        let here : Some cells ≡ Some found = sym (get-insert nat_list_cmp_total old k cells k ∙ ap (λ b. cond b (Some cells) (get old k)) (tied k)) ∙ ap (get (insert old k cells)) (sym same) ∙ got in
        subst (λ c. c ≢ empty) (ap (λ o. unwrap_or o cells) here) some
    at (inr ne) = none q found (sym (get-insert nat_list_cmp_total old k cells q ∙ ap (λ b. cond b (Some cells) (get old q)) (untied q k ne)) ∙ got)

-- a cell was written, so there is one
pub written_some : (cells : CellMap) (q : List ℕ) (c : List ℕ × ℕ) → insert cells q c ≢ empty
written_some cells q c is =
    let here : get (insert cells q c) q ≡ Some c = get-insert nat_list_cmp_total cells q c q ∙ ap (λ b. cond b (Some c) (get cells q)) (tied q) in
    let none : get (insert cells q c) q ≡ None = ap (λ m. get m q) is ∙ get-empty bytes_cmp q in
    cc

pub appended_some : (cells : CellMap) (piece : List ℕ) (version : ℕ) → appended cells piece version ≢ empty
appended_some cells piece version = written_some cells column_qual (bytes_there (get cells column_qual) ++ piece, version)

-- a row that is there, and one that isn't
pub row_found : (m : Rows) (k : List ℕ) (v : CellMap) → Some v ≡ get m k → row_in m k ≡ v
row_found m k v e = ap (λ o. unwrap_or o empty) (sym e)

pub row_absent : (m : Rows) (k : List ℕ) → None ≡ get m k → row_in m k ≡ empty
row_absent m k e = ap (λ o. unwrap_or o empty) (sym e)

pub unchanged_row : (m : Rows) (k : List ℕ) (cells : CellMap) → row_in m k ≡ cells → ChangesRow m m k cells
unchanged_row m k cells is = record { here = is; others = λ q ne. refl }

-- a row's own cells once more
pub put_back : (m : Rows) (k : List ℕ) (v : CellMap) → Some v ≡ get m k → insert m k v ≡ m
put_back m k v e = same_map nat_list_cmp_total exact (insert m k v) m (λ q. get-insert nat_list_cmp_total m k v q ∙ at q (same_or_not q k))
  where
    at : (q : List ℕ) → (q ≡ k) ⊎ (q ≢ k) → cond (eq_by_cmp bytes_cmp q k) (Some v) (get m q) ≡ get m q
    at q (inl same) = ap (λ b. cond b (Some v) (get m q)) (ap (λ (x : List ℕ). eq_by_cmp bytes_cmp x k) same ∙ tied k) ∙ e ∙ ap (get m) (sym same)
    at q (inr ne) = ap (λ b. cond b (Some v) (get m q)) (untied q k ne)

-- cells of a row that was taken out before
put_anew : (m : Rows) (k : List ℕ) (w : CellMap) → insert (remove m k) k w ≡ insert m k w
put_anew m k w = same_map nat_list_cmp_total exact (insert (remove m k) k w) (insert m k w) (λ q.
    get-insert nat_list_cmp_total (remove m k) k w q ∙ ap (cond (eq_by_cmp bytes_cmp q k) (Some w)) (get-remove nat_list_cmp_total m k q) ∙ shadowed (eq_by_cmp bytes_cmp q k) (Some w) None (get m q) ∙ sym (get-insert nat_list_cmp_total m k w q))
  where
    shadowed : (b : Bool) (x y z : Option CellMap) → cond b x (cond b y z) ≡ cond b x z
    shadowed true x y z = refl
    shadowed false x y z = refl

gone_row : (m : Rows) (k : List ℕ) → get (remove m k) k ≡ None
gone_row m k = get-remove nat_list_cmp_total m k k ∙ ap (λ b. cond b None (get m k)) (tied k)

-- how many cells there are with a row more
sum_put : (k : List ℕ) (v : CellMap) (es : List (List ℕ × CellMap)) → find bytes_cmp k es ≡ None → cells_among (put bytes_cmp k v es) ≡ cells_among es + len v
sum_put k v [] none = let one = sum_by-cons (λ (r : List ℕ × CellMap). len r.1) (k, v) [] in omega (arith, one)
sum_put k v (e ∷ es) none = at (bytes_cmp k e.0) none (sum_put k v es)
  where
    at : (r : Ordering) → cond (is_eq r) (Some e.1) (find bytes_cmp k es) ≡ None → (find bytes_cmp k es ≡ None → cells_among (put bytes_cmp k v es) ≡ cells_among es + len v)
        → cells_among (by_order r ((k, v) ∷ e ∷ es) ((e.0, v) ∷ es) (e ∷ put bytes_cmp k v es)) ≡ cells_among (e ∷ es) + len v
    at Less is go = let one = sum_by-cons (λ (r : List ℕ × CellMap). len r.1) (k, v) (e ∷ es) in omega (arith, one)
    at Equal is go = absurd (no_some e.1 (sym is))
    at Greater is go =
        let more = sum_by-cons (λ (r : List ℕ × CellMap). len r.1) e (put bytes_cmp k v es) in
        let one = sum_by-cons (λ (r : List ℕ × CellMap). len r.1) e es in
        omega (arith, more, one, go is)

pub added_count : (m : Rows) (k : List ℕ) (v : CellMap) → get m k ≡ None → count_of (insert m k v) ≡ count_of m + len v
added_count m k v none = ap cells_among (entries-insert nat_list_cmp_total m k v) ∙ sum_put k v (entries m) (sym (get-entries m k) ∙ none)

-- with other cells of one
pub set_count : (m : Rows) (k : List ℕ) (v w : CellMap) → Some v ≡ get m k → count_of (insert m k w) + len v ≡ count_of m + len w
set_count m k v w e =
    let old : count_of m ≡ count_of (remove m k) + len v = ap count_of (sym (put_anew m k v ∙ put_back m k v e)) ∙ added_count (remove m k) k v (gone_row m k) in
    let new : count_of (insert m k w) ≡ count_of (remove m k) + len w = ap count_of (sym (put_anew m k w)) ∙ added_count (remove m k) k w (gone_row m k) in
    omega (arith, old, new)

-- and with one less
pub removed_count : (m : Rows) (k : List ℕ) (v : CellMap) → Some v ≡ get m k → count_of (remove m k) + len v ≡ count_of m
removed_count m k v e = sym (ap count_of (sym (put_anew m k v ∙ put_back m k v e)) ∙ added_count (remove m k) k v (gone_row m k))

-- the first cell of a row
one_cell : (q : List ℕ) (c : List ℕ × ℕ) → len (insert (empty {R = bytes_cmp}) q c) ≡ 1
one_cell q c = len-insert nat_list_cmp_total empty q c
    ∙ ap (λ o. cond (is_some o) (len (empty {X = List ℕ × ℕ} {R = bytes_cmp})) (len (empty {X = List ℕ × ℕ} {R = bytes_cmp}) + 1)) (get-empty {X = List ℕ × ℕ} bytes_cmp q)
    ∙ ap (λ n. n + 1) (len-empty bytes_cmp (List ℕ × ℕ))

pub first_count : (m : Rows) (k q : List ℕ) (c : List ℕ × ℕ) → get m k ≡ None → count_of (insert m k (insert empty q c)) ≡ count_of m + 1
first_count m k q c none = added_count m k (insert empty q c) none ∙ ap (λ n. count_of m + n) (one_cell q c)

pub no_rows : (m : Rows) → m ≡ empty → NoneEmpty m × (0 ≡ count_of m)
no_rows m none =
    let nothing : entries m ≡ [] = nil_from_length (entries m) (sym (len-entries m) ∙ ap len none ∙ len-empty bytes_cmp CellMap) in
    (λ q c e. absurd (no_some c (sym (ap (λ r. get r q) none ∙ get-empty bytes_cmp q) ∙ e)), ap cells_among (sym nothing))

pub changes_twice : (a b c : Rows) (k : List ℕ) (x y : CellMap) → ChangesRow a b k x → ChangesRow b c k y → ChangesRow a c k y
changes_twice a b c k x y one two = record { here = two.here; others = λ q ne. two.others q ne ∙ one.others q ne }

pub none_empty_emptied : (old mid new : Rows) (k : List ℕ) (w : CellMap) → NoneEmpty old → mid ≡ insert old k w → new ≡ remove mid k → NoneEmpty new
none_empty_emptied old mid new k w none was is q found e = at (same_or_not q k)
  where
    got : get (remove mid k) q ≡ Some found
    got = ap (λ r. get r q) (sym is) ∙ e

    at : (q ≡ k) ⊎ (q ≢ k) → found ≢ empty
    at (inl same) =
        let here : get (remove mid k) q ≡ None = ap (get (remove mid k)) same ∙ get-remove nat_list_cmp_total mid k k ∙ ap (λ b. cond b None (get mid k)) (tied k) in
        absurd (no_some found (sym here ∙ got))
    at (inr ne) = none q found
        (sym (get-insert nat_list_cmp_total old k w q ∙ ap (λ b. cond b (Some w) (get old q)) (untied q k ne)) ∙ ap (λ r. get r q) (sym was)
        ∙ sym (get-remove nat_list_cmp_total mid k q ∙ ap (λ b. cond b None (get mid q)) (untied q k ne)) ∙ got)

pub put_there : (m : Rows) (k : List ℕ) (w : CellMap) → Some w ≡ get (insert m k w) k
put_there m k w = sym (get-insert nat_list_cmp_total m k w k ∙ ap (λ b. cond b (Some w) (get m k)) (tied k))

pub on_err : {A E P : Type 0} (r : Result A E) → P → OnErr r P
on_err (Ok a) p = tt
on_err (Err e) p = p

pub none_len : (cells : CellMap) → cells ≡ empty → len cells ≡ 0
none_len cells is = ap len is ∙ len-empty bytes_cmp (List ℕ × ℕ)
