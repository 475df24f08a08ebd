-- How many cells a row has after an edit.
use Rattle.std.proofs.Common.{◌≡◌, ◌≢◌, ℕ, zero, suc, ◌+◌, ◌-◌, ◌≤◌, ◌<◌, Bool, true, false, cond, List, [], ◌∷◌, length, refl, sym, ap, ◌∙◌, arith}
use Rattle.std.specs.Prelude.{Option, None, Some, nat_lt, is_some, slice_index_or, drop}
use Rattle.std.specs.Cmp.Lexicographic.{nat_list_cmp_total}
use Rattle.std.specs.FinMap.{empty, insert, remove, get, get-empty, len, len-insert, len-remove, len-empty, empty_of_len, contains_key}
use Rattle.std.proofs.lemmas.Bool.Decides.{nat_tests}
use Rattle.list_lemmas.specs.BytesOrder.{bytes_cmp}
use Rattle.packed_cells.specs.Keyed.{CellMap, goes, without, stamped, stamped_over}
use Rattle.map_body.specs.TableRows.{left, gone}

grown : (n m : ℕ) (there : Bool) → m ≡ cond there n (n + 1) → m ≡ n + cond (nat_lt n m) 1 0
grown n m true e = grind (arith, nat_tests, e)
grown n m false e = grind (arith, nat_tests, e)

-- a write adds a cell, or none
pub len_put : (m : CellMap) (q : List ℕ) (c : List ℕ × ℕ) → len (insert m q c) ≡ len m + cond (nat_lt (len m) (len (insert m q c))) 1 0
len_put m q c = grown (len m) (len (insert m q c)) (contains_key m q) (len-insert nat_list_cmp_total m q c)

no_some : (c : List ℕ × ℕ) → None ≡ Some c → ⊥
no_some c h = cc

pub some_len : (m : CellMap) (q : List ℕ) (c : List ℕ × ℕ) → get m q ≡ Some c → 1 ≤ len m
some_len m q c is = at (len m) refl
  where
    at : (n : ℕ) → len m ≡ n → 1 ≤ n
    at zero e = let none : get m q ≡ None = ap (λ x. get x q) (empty_of_len m e) ∙ get-empty bytes_cmp q in absurd (no_some c (sym none ∙ is))
    at (suc n) e = omega arith

-- a removal takes one cell, or none
pub len_without : (m : CellMap) (q : List ℕ) (n : ℕ) → len (without m q n) + cond (goes (get m q) n) 1 0 ≡ len m
len_without m q n = at (get m q) refl
  where
    fewer : (c : List ℕ × ℕ) (b : Bool) → get m q ≡ Some c → len (cond b (remove m q) m) + cond b 1 0 ≡ len m
    fewer c true e = let some = some_len m q c e in let l : len (remove m q) ≡ len m - 1 = len-remove nat_list_cmp_total m q ∙ ap (λ o. cond (is_some o) (len m - 1) (len m)) e in omega (arith, some, l)
    fewer c false e = omega arith

    at : (o : Option (List ℕ × ℕ)) → get m q ≡ o → len (cond (goes (get m q) n) (remove m q) m) + cond (goes (get m q) n) 1 0 ≡ len m
    at None e = rw e (omega arith)
    at (Some c) e = fewer c (goes (get m q) n) e

-- the list from one place on
pub next_of : {X : Type 0} (xs : List X) (i : ℕ) (d : X) → i < length xs → drop i xs ≡ slice_index_or xs i d ∷ drop (suc i) xs
next_of [] i d lt = absurd (omega (arith, lt))
next_of (x ∷ xs) zero d lt = refl
next_of (x ∷ xs) (suc i) d lt = next_of xs i d (omega (arith, lt))

pub drop-zero : {X : Type 0} (xs : List X) → drop 0 xs ≡ xs
drop-zero [] = refl
drop-zero (x ∷ xs) = refl

pub none_left : {X : Type 0} (xs : List X) (i : ℕ) → length xs ≤ i → drop i xs ≡ []
none_left [] zero le = refl
none_left [] (suc i) le = refl
none_left (x ∷ xs) zero le = absurd (omega (arith, le))
none_left (x ∷ xs) (suc i) le = none_left xs i (omega (arith, le))

-- a stamp keeps the number of cells
pub len_stamped : (m : CellMap) (q : List ℕ) (n : ℕ) → len (stamped m q n) ≡ len m
len_stamped m q n = at (get m q) refl
  where
    at : (o : Option (List ℕ × ℕ)) → get m q ≡ o → len (stamped_over o m q n) ≡ len m
    at None e = refl
    at (Some c) e = len-insert nat_list_cmp_total m q (c.0, n) ∙ ap (λ o. cond (is_some o) (len m) (len m + 1)) e

pub stamped_some : (m : CellMap) (q : List ℕ) (n : ℕ) → m ≢ empty → stamped m q n ≢ empty
stamped_some m q n some e = some (empty_of_len m (sym (len_stamped m q n) ∙ ap len e ∙ len-empty bytes_cmp (List ℕ × ℕ)))

pub left_none : (list : List (List ℕ × ℕ)) → left empty list ≡ empty
left_none [] = refl
left_none (d ∷ list) = ap (λ m. left m list) (ap (λ o. cond (goes o d.1) (remove empty d.0) empty) (get-empty {X = List ℕ × ℕ} bytes_cmp d.0)) ∙ left_none list

pub gone_none : (list : List (List ℕ × ℕ)) → gone empty list ≡ 0
gone_none [] = refl
gone_none (d ∷ list) =
    ap (λ o. cond (goes o d.1) (gone (cond (goes o d.1) (remove empty d.0) empty) list + 1) (gone (cond (goes o d.1) (remove empty d.0) empty) list)) (get-empty {X = List ℕ × ℕ} bytes_cmp d.0)
    ∙ gone_none list

pub stamped_none : (q : List ℕ) (n : ℕ) → stamped empty q n ≡ empty
stamped_none q n = ap (λ o. stamped_over o empty q n) (get-empty {X = List ℕ × ℕ} bytes_cmp q)

-- what goes and what is left are all
pub gone_and_left : (m : CellMap) (list : List (List ℕ × ℕ)) → gone m list + len (left m list) ≡ len m
gone_and_left m [] = omega arith
gone_and_left m (d ∷ list) = at (goes (get m d.0) d.1) (gone (without m d.0 d.1) list) (gone_and_left (without m d.0 d.1) list) (len_without m d.0 d.1)
  where
    at : (b : Bool) (k : ℕ) → k + len (left (without m d.0 d.1) list) ≡ len (without m d.0 d.1) → len (without m d.0 d.1) + cond b 1 0 ≡ len m → cond b (k + 1) k + len (left (without m d.0 d.1) list) ≡ len m
    at true k e l = omega (arith, e, l)
    at false k e l = omega (arith, e, l)

-- a step of a drop's loop
pub drop_starts : (m : CellMap) (list : List (List ℕ × ℕ)) → left m (drop 0 list) ≡ left m list
drop_starts m list = ap (left m) (drop-zero list)

pub drop_goes_on : (m0 m n : CellMap) (list : List (List ℕ × ℕ)) (i : ℕ) (d : List ℕ × ℕ) → left m (drop i list) ≡ left m0 list → i < length list → d ≡ slice_index_or list i d → n ≡ without m d.0 d.1 → left n (drop (i + 1) list) ≡ left m0 list
drop_goes_on m0 m n list i d was lt here is =
    let next : drop i list ≡ d ∷ drop (suc i) list = next_of list i d lt ∙ ap (λ (x : List ℕ × ℕ). x ∷ drop (suc i) list) (sym here) in
    let one : ◌≡◌ {A = ℕ} (i + 1) (suc i) = omega arith in
    (λ k. left (is k) (drop (one k) list)) ∙ sym (ap (left m) next) ∙ was

pub drop_ends : (m0 m : CellMap) (list : List (List ℕ × ℕ)) (i : ℕ) → left m (drop i list) ≡ left m0 list → length list ≤ i → m ≡ left m0 list
drop_ends m0 m list i was le = sym (ap (left m) (none_left list i le)) ∙ was
