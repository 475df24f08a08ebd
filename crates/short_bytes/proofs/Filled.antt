-- Lists that are filled up with zeros are ordered as the filled lists, and then as their lengths.
use Rattle.std.proofs.Common.{◌≡◌, ◌≢◌, ℕ, false, suc, ◌+◌, ◌-◌, ◌≤◌, List, [], ◌∷◌, ◌++◌, length, take, drop, replicate, refl, sym, ap, ◌∙◌, arith, length-append}
use Rattle.std.proofs.lemmas.List.{length-replicate, length-take, take-append-drop}
use Rattle.std.proofs.lemmas.Cmp.{ranked, tied_itself, nat_list_cmp_total}
use Rattle.std.specs.Cmp.{nat_cmp_is}
use Rattle.std.specs.Cmp.Lexicographic.{pointwise, texts_ties}
use Rattle.std.specs.Prelude.{nat_eq}
use Rattle.std.specs.Ordering.{is_eq, nat_cmp, ordering_then}
use Rattle.std.specs.declared.cmp.Ordering.{Ordering}
use Rattle.std.specs.declared.cmp.Ordering.TheVariants.{Less, Equal, Greater}
use Rattle.list_lemmas.specs.BytesOrder.{bytes_cmp}
use Rattle.list_lemmas.proofs.OrderedBytes.{then_assoc}
use Rattle.short_bytes.proofs.Words.{then_equal}

suc_cmp : (m n : ℕ) → nat_cmp (suc m) (suc n) ≡ nat_cmp m n
suc_cmp m n = at (nat_cmp m n) refl
  where
    at : (r : Ordering) → r ≡ nat_cmp m n → nat_cmp (suc m) (suc n) ≡ r
    at Less h = let lt = ranked m n Less h in sym (nat_cmp_is (suc m) (suc n) Less (omega (arith, lt)))
    at Equal h = let eq = ranked m n Equal h in sym (nat_cmp_is (suc m) (suc n) Equal (omega (arith, eq)))
    at Greater h = let gt = ranked m n Greater h in sym (nat_cmp_is (suc m) (suc n) Greater (omega (arith, gt)))

zeros_first : (zs : List ℕ) → ordering_then (bytes_cmp (replicate (length zs) 0) zs) Less ≡ Less
zeros_first [] = refl
zeros_first (z ∷ zs) = sym (then_assoc (nat_cmp 0 z) (bytes_cmp (replicate (length zs) 0) zs) Less) ∙ ap (ordering_then (nat_cmp 0 z)) (zeros_first zs) ∙ at (nat_cmp 0 z) refl
  where
    at : (r : Ordering) → r ≡ nat_cmp 0 z → ordering_then r Less ≡ Less
    at Less h = refl
    at Equal h = refl
    at Greater h = let gt = ranked 0 z Greater h in absurd (omega (arith, gt))

zeros_last : (zs : List ℕ) → ordering_then (bytes_cmp zs (replicate (length zs) 0)) Greater ≡ Greater
zeros_last [] = refl
zeros_last (z ∷ zs) = sym (then_assoc (nat_cmp z 0) (bytes_cmp zs (replicate (length zs) 0)) Greater) ∙ ap (ordering_then (nat_cmp z 0)) (zeros_last zs) ∙ at (nat_cmp z 0) refl
  where
    at : (r : Ordering) → r ≡ nat_cmp z 0 → ordering_then r Greater ≡ Greater
    at Less h = let lt = ranked z 0 Less h in absurd (omega (arith, lt))
    at Equal h = refl
    at Greater h = refl

filled : (xs ys : List ℕ) (i j : ℕ) → length xs + i ≡ length ys + j
    → ordering_then (bytes_cmp (xs ++ replicate i 0) (ys ++ replicate j 0)) (nat_cmp (length xs) (length ys)) ≡ bytes_cmp xs ys
filled [] [] i j e =
    let same : i ≡ j = omega (arith, e) in
    ap (λ k. ordering_then (bytes_cmp (replicate k 0) (replicate j 0)) (nat_cmp 0 0)) same ∙ ap (λ o. ordering_then o (nat_cmp 0 0)) (tied_itself nat_list_cmp_total (replicate j 0))
filled [] (y ∷ ys) i j e =
    let zs : List ℕ = (y ∷ ys) ++ replicate j 0 in
    let long : i ≡ length zs = omega (arith, e, length-append (y ∷ ys) (replicate j 0), length-replicate {A = ℕ} j 0) in
    let less : nat_cmp 0 (length (y ∷ ys)) ≡ Less = sym (nat_cmp_is 0 (length (y ∷ ys)) Less (omega arith)) in
    (λ k. ordering_then (bytes_cmp (replicate (long k) 0) zs) (less k)) ∙ zeros_first zs
filled (x ∷ xs) [] i j e =
    let zs : List ℕ = (x ∷ xs) ++ replicate i 0 in
    let long : j ≡ length zs = omega (arith, e, length-append (x ∷ xs) (replicate i 0), length-replicate {A = ℕ} i 0) in
    let greater : nat_cmp (length (x ∷ xs)) 0 ≡ Greater = sym (nat_cmp_is (length (x ∷ xs)) 0 Greater (omega arith)) in
    (λ k. ordering_then (bytes_cmp zs (replicate (long k) 0)) (greater k)) ∙ zeros_last zs
filled (x ∷ xs) (y ∷ ys) i j e =
    let rest = bytes_cmp (xs ++ replicate i 0) (ys ++ replicate j 0) in
    sym (then_assoc (nat_cmp x y) rest (nat_cmp (length (x ∷ xs)) (length (y ∷ ys))))
    ∙ ap (λ o. ordering_then (nat_cmp x y) (ordering_then rest o)) (suc_cmp (length xs) (length ys))
    ∙ ap (ordering_then (nat_cmp x y)) (filled xs ys i j (omega (arith, e)))

-- two blocks of which the first bytes count
pub short_order : (m n : ℕ) (xs ys : List ℕ) → length xs ≡ 30 → length ys ≡ 30 → m ≤ 30 → n ≤ 30
    → drop m xs ≡ replicate (30 - m) 0 → drop n ys ≡ replicate (30 - n) 0
    → ordering_then (bytes_cmp xs ys) (nat_cmp m n) ≡ bytes_cmp (take m xs) (take n ys)
short_order m n xs ys lx ly lm ln zx zy =
    let tx : length (take m xs) ≡ m = omega (arith, lx, lm, length-take m xs) in
    let ty : length (take n ys) ≡ n = omega (arith, ly, ln, length-take n ys) in
    let wx : xs ≡ take m xs ++ replicate (30 - m) 0 = sym (take-append-drop m xs) ∙ ap (λ (l : List ℕ). take m xs ++ l) zx in
    let wy : ys ≡ take n ys ++ replicate (30 - n) 0 = sym (take-append-drop n ys) ∙ ap (λ (l : List ℕ). take n ys ++ l) zy in
    (λ i. ordering_then (bytes_cmp (wx i) (wy i)) (nat_cmp (sym tx i) (sym ty i)))
    ∙ filled (take m xs) (take n ys) (30 - m) (30 - n) (omega (arith, tx, ty, lm, ln))

-- ---- whether the bytes that count are the same

then_differs : (a b : Ordering) → is_eq b ≡ false → false ≡ is_eq (ordering_then a b)
then_differs Less b e = refl
then_differs Equal b e = sym e
then_differs Greater b e = refl

unequal : (m n : ℕ) → m ≢ n → is_eq (nat_cmp m n) ≡ false
unequal m n differs = at (nat_cmp m n) refl
  where
    at : (r : Ordering) → r ≡ nat_cmp m n → is_eq r ≡ false
    at Less h = refl
    at Equal h = absurd (differs (ranked m n Equal h))
    at Greater h = refl

-- as many of two blocks count: they are the same where the blocks are
pub short_same : (m n : ℕ) (xs ys : List ℕ) → length xs ≡ 30 → length ys ≡ 30 → m ≤ 30 → n ≤ 30
    → drop m xs ≡ replicate (30 - m) 0 → drop n ys ≡ replicate (30 - n) 0 → m ≡ n
    → pointwise nat_eq xs ys ≡ pointwise nat_eq (take m xs) (take n ys)
short_same m n xs ys lx ly lm ln zx zy same =
    let tie : nat_cmp m n ≡ Equal = sym (nat_cmp_is m n Equal (omega (arith, same))) in
    texts_ties xs ys
    ∙ ap is_eq (sym (then_equal (bytes_cmp xs ys)))
    ∙ ap (λ o. is_eq (ordering_then (bytes_cmp xs ys) o)) (sym tie)
    ∙ ap is_eq (short_order m n xs ys lx ly lm ln zx zy)
    ∙ sym (texts_ties (take m xs) (take n ys))

-- not as many count: they aren't the same
pub short_differs : (m n : ℕ) (xs ys : List ℕ) → length xs ≡ 30 → length ys ≡ 30 → m ≤ 30 → n ≤ 30
    → drop m xs ≡ replicate (30 - m) 0 → drop n ys ≡ replicate (30 - n) 0 → m ≢ n
    → false ≡ pointwise nat_eq (take m xs) (take n ys)
short_differs m n xs ys lx ly lm ln zx zy differs =
    then_differs (bytes_cmp xs ys) (nat_cmp m n) (unequal m n differs)
    ∙ ap is_eq (short_order m n xs ys lx ly lm ln zx zy)
    ∙ sym (texts_ties (take m xs) (take n ys))
