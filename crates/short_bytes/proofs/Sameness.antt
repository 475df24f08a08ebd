-- Bytes that are the same where the numbers that they spell are, and lists where their ends are.
use Rattle.std.proofs.Common.{◌≡◌, ◌≢◌, ◌≤◌, ◌<◌, ℕ, zero, suc, ◌+◌, ◌-◌, Bool, true, false, List, get_or, [], ◌∷◌, ◌++◌, length, take, drop, refl, sym, ap, ◌∙◌, arith, length-drop}
use Rattle.std.proofs.lemmas.Bool.Decides.{nat_tests}
use Rattle.std.proofs.lemmas.Cmp.{tied_itself, nat_list_cmp_total}
use Rattle.std.proofs.lemmas.List.{drop-drop, take_all, take-append-drop}
use Rattle.std.proofs.lemmas.Nat.{le_bytes_2, le_bytes_4, le_bytes_8}
use Rattle.std.specs.Cmp.Lexicographic.{texts_ties}
use Rattle.std.specs.Int.{w16, w32, w64, from_le_bytes, to_le_bytes}
use Rattle.std.specs.Int.Digits.{AllBelowBase}
use Rattle.std.specs.Ordering.{is_eq}
use Rattle.std.specs.Prelude.{nat_eq}
use Rattle.list_lemmas.specs.BytesOrder.{bytes_cmp}
use Rattle.short_bytes.specs.Alike.{is_equal, same_list}

unequal_numbers : (m n : ℕ) → nat_eq m n ≡ false → m ≢ n
unequal_numbers m n e same = grind (arith, nat_tests)

-- numbers are the same exactly where the bytes are
numbers_tie : (xs ys : List ℕ) (m n : ℕ) → (m ≡ n → xs ≡ ys) → (xs ≡ ys → m ≡ n) → nat_eq m n ≡ is_eq (bytes_cmp xs ys)
numbers_tie xs ys m n there back = sym (at (nat_eq m n) refl)
  where
    at : (t : Bool) → t ≡ nat_eq m n → is_eq (bytes_cmp xs ys) ≡ t
    at true e =
        let same : xs ≡ ys = there (is_equal m n (sym e)) in
        ap (λ l. is_eq (bytes_cmp xs l)) (sym same) ∙ ap is_eq (tied_itself nat_list_cmp_total xs)
    at false e = not_same (is_eq (bytes_cmp xs ys)) refl
      where
        not_same : (t : Bool) → t ≡ is_eq (bytes_cmp xs ys) → t ≡ false
        not_same false h = refl
        not_same true h = absurd (unequal_numbers m n (sym e) (back (same_list xs ys (texts_ties xs ys ∙ sym h))))

pub below_base : (xs : List ℕ) → AllBelowBase 256 xs → (i : ℕ) → get_or xs i 0 < 256
below_base [] h i = omega arith
below_base (x ∷ xs) h zero = h.0
below_base (x ∷ xs) h (suc i) = below_base xs h.1 i

-- eight bytes, four and two
pub eights_tie : (xs ys : List ℕ) (m n : ℕ) → length xs ≡ 8 → length ys ≡ 8 → AllBelowBase 256 xs → AllBelowBase 256 ys
    → m ≡ from_le_bytes w64 xs → n ≡ from_le_bytes w64 ys → nat_eq m n ≡ is_eq (bytes_cmp xs ys)
eights_tie xs ys m n lx ly a b p q =
    numbers_tie xs ys m n
    (λ same. sym (le_bytes_8 xs m lx (below_base xs a) p) ∙ ap (to_le_bytes w64) same ∙ le_bytes_8 ys n ly (below_base ys b) q)
    (λ same. p ∙ ap (from_le_bytes w64) same ∙ sym q)

pub fours_tie : (xs ys : List ℕ) (m n : ℕ) → length xs ≡ 4 → length ys ≡ 4 → AllBelowBase 256 xs → AllBelowBase 256 ys
    → m ≡ from_le_bytes w32 xs → n ≡ from_le_bytes w32 ys → nat_eq m n ≡ is_eq (bytes_cmp xs ys)
fours_tie xs ys m n lx ly a b p q =
    numbers_tie xs ys m n
    (λ same. sym (le_bytes_4 xs m lx (below_base xs a) p) ∙ ap (to_le_bytes w32) same ∙ le_bytes_4 ys n ly (below_base ys b) q)
    (λ same. p ∙ ap (from_le_bytes w32) same ∙ sym q)

pub twos_tie : (xs ys : List ℕ) (m n : ℕ) → length xs ≡ 2 → length ys ≡ 2 → AllBelowBase 256 xs → AllBelowBase 256 ys
    → m ≡ from_le_bytes w16 xs → n ≡ from_le_bytes w16 ys → nat_eq m n ≡ is_eq (bytes_cmp xs ys)
twos_tie xs ys m n lx ly a b p q =
    numbers_tie xs ys m n
    (λ same. sym (le_bytes_2 xs m lx (below_base xs a) p) ∙ ap (to_le_bytes w16) same ∙ le_bytes_2 ys n ly (below_base ys b) q)
    (λ same. p ∙ ap (from_le_bytes w16) same ∙ sym q)

-- lists that are told to be the same are
told_same : (xs ys : List ℕ) (t : Bool) → t ≡ is_eq (bytes_cmp xs ys) → t ≡ true → xs ≡ ys
told_same xs ys t told is = same_list xs ys (texts_ties xs ys ∙ sym told ∙ is)

-- and so are longer ones, where their first k bytes are and their last k, which are all
pub ends_same : (k i : ℕ) (xs ys : List ℕ) (s t : Bool) → length xs ≡ length ys → k ≤ length xs → length xs ≤ k + k → i ≡ length xs - k
    → s ≡ is_eq (bytes_cmp (take k (drop 0 xs)) (take k (drop 0 ys))) → s ≡ true → t ≡ is_eq (bytes_cmp (take k (drop i xs)) (take k (drop i ys))) → t ≡ true → xs ≡ ys
ends_same k i xs ys s t len least most at front is_front back is_back =
    let last = told_same (take k (drop i xs)) (take k (drop i ys)) t back is_back in
    let rest : drop i xs ≡ drop i ys = sym (last_part k i xs least at) ∙ last ∙ last_part k i ys (omega (arith, least, len)) (at ∙ ap (λ n. n - k) len) in
    let further : i + (k - i) ≡ k = omega (arith, least, most, at) in
    let behind : drop k xs ≡ drop k ys =
    ap (λ n. drop n xs) (sym further) ∙ sym (drop-drop (k - i) i xs) ∙ ap (drop (k - i)) rest ∙ drop-drop (k - i) i ys ∙ ap (λ n. drop n ys) further in
    let first = told_same (take k xs) (take k ys) s front is_front in
    sym (take-append-drop k xs) ∙ (λ j. first j ++ behind j) ∙ take-append-drop k ys
  where
    last_part : (k i : ℕ) (zs : List ℕ) → k ≤ length zs → i ≡ length zs - k → take k (drop i zs) ≡ drop i zs
    last_part k i zs least at = take_all k (drop i zs) (omega (arith, least, at, length-drop i zs))
