-- Equally many bytes are ordered as the numbers that they spell, and lists by their parts.
use Rattle.std.proofs.Common.{◌≡◌, ◌≤◌, ℕ, ◌+◌, ◌*◌, ◌<◌, true, false, List, [], ◌∷◌, ◌++◌, length, take, drop, refl, sym, ap, ◌∙◌, arith, length-drop}
use Rattle.std.proofs.Math.Seq.{take-add}
use Rattle.std.proofs.Math.ListN.{drop_of_length-le}
use Rattle.std.proofs.lemmas.List.{drop-drop, length-take, take-append-drop}
use Rattle.std.proofs.lemmas.Cmp.{ranked}
use Rattle.std.specs.Cmp.{nat_cmp_is}
use Rattle.std.specs.Cmp.Lexicographic.{pointwise, texts_ties}
use Rattle.std.specs.Int.Digits.{AllBelowBase, number_from_digits, number_from_digits_after}
use Rattle.std.specs.Ordering.{nat_cmp, is_eq, is_ne, ordering_then}
use Rattle.std.specs.declared.cmp.Ordering.{Ordering}
use Rattle.std.specs.declared.cmp.Ordering.TheVariants.{Less, Equal, Greater}
use Rattle.list_lemmas.proofs.OrderedBytes.{then_assoc}
use Rattle.list_lemmas.specs.BytesOrder.{bytes_cmp}
use Rattle.std.specs.Prelude.{nat_eq, ◌&&◌}

pub then_equal : (a : Ordering) → ordering_then a Equal ≡ a
then_equal Less = refl
then_equal Equal = refl
then_equal Greater = refl

pub decided : (a b : Ordering) → is_ne a ≡ true → a ≡ ordering_then a b
decided Less b e = refl
decided Equal b e = absurd cc
decided Greater b e = refl

pub tied : (a b : Ordering) → is_ne a ≡ false → ordering_then a b ≡ b
tied Less b e = absurd cc
tied Equal b e = refl
tied Greater b e = absurd cc

-- ---- numbers

digit_more : (m n d e : ℕ) → d < 256 → e < 256 → nat_cmp (m * 256 + d) (n * 256 + e) ≡ ordering_then (nat_cmp m n) (nat_cmp d e)
digit_more m n d e ld le = at (nat_cmp m n) refl
  where
    low : (r : Ordering) → m ≡ n → r ≡ nat_cmp d e → nat_cmp (m * 256 + d) (n * 256 + e) ≡ r
    low Less same h = let lt = ranked d e Less h in sym (nat_cmp_is (m * 256 + d) (n * 256 + e) Less (omega (arith, lt, same)))
    low Equal same h = let eq = ranked d e Equal h in sym (nat_cmp_is (m * 256 + d) (n * 256 + e) Equal (omega (arith, eq, same)))
    low Greater same h = let gt = ranked d e Greater h in sym (nat_cmp_is (m * 256 + d) (n * 256 + e) Greater (omega (arith, gt, same)))

    at : (r : Ordering) → r ≡ nat_cmp m n → nat_cmp (m * 256 + d) (n * 256 + e) ≡ ordering_then r (nat_cmp d e)
    at Less h = let lt = ranked m n Less h in sym (nat_cmp_is (m * 256 + d) (n * 256 + e) Less (omega (arith, lt, ld, le)))
    at Equal h = low (nat_cmp d e) (ranked m n Equal h) refl
    at Greater h = let gt = ranked m n Greater h in sym (nat_cmp_is (m * 256 + d) (n * 256 + e) Greater (omega (arith, gt, ld, le)))

digits_more : (m n : ℕ) (xs ys : List ℕ) → length xs ≡ length ys → AllBelowBase 256 xs → AllBelowBase 256 ys
    → nat_cmp (number_from_digits_after 256 m xs) (number_from_digits_after 256 n ys) ≡ ordering_then (nat_cmp m n) (bytes_cmp xs ys)
digits_more m n [] [] len a b = sym (then_equal (nat_cmp m n))
digits_more m n [] (y ∷ ys) len a b = absurd (omega (arith, len))
digits_more m n (x ∷ xs) [] len a b = absurd (omega (arith, len))
digits_more m n (x ∷ xs) (y ∷ ys) len a b =
    digits_more (m * 256 + x) (n * 256 + y) xs ys (omega (arith, len)) a.1 b.1
    ∙ ap (λ o. ordering_then o (bytes_cmp xs ys)) (digit_more m n x y a.0 b.0)
    ∙ sym (then_assoc (nat_cmp m n) (nat_cmp x y) (bytes_cmp xs ys))

pub numbers_order : (xs ys : List ℕ) → length xs ≡ length ys → AllBelowBase 256 xs → AllBelowBase 256 ys
    → nat_cmp (number_from_digits 256 xs) (number_from_digits 256 ys) ≡ bytes_cmp xs ys
numbers_order xs ys len a b = digits_more 0 0 xs ys len a b

-- ---- parts

parts : (xs ys vs ws : List ℕ) → length xs ≡ length ys → bytes_cmp (xs ++ vs) (ys ++ ws) ≡ ordering_then (bytes_cmp xs ys) (bytes_cmp vs ws)
parts [] [] vs ws len = refl
parts [] (y ∷ ys) vs ws len = absurd (omega (arith, len))
parts (x ∷ xs) [] vs ws len = absurd (omega (arith, len))
parts (x ∷ xs) (y ∷ ys) vs ws len =
    ap (ordering_then (nat_cmp x y)) (parts xs ys vs ws (omega (arith, len))) ∙ then_assoc (nat_cmp x y) (bytes_cmp xs ys) (bytes_cmp vs ws)

front : (n : ℕ) (xs ys : List ℕ) → n ≤ length xs → n ≤ length ys
    → bytes_cmp xs ys ≡ ordering_then (bytes_cmp (take n xs) (take n ys)) (bytes_cmp (drop n xs) (drop n ys))
front n xs ys lx ly =
    let e = parts (take n xs) (take n ys) (drop n xs) (drop n ys) (omega (arith, lx, ly, length-take n xs, length-take n ys)) in
    sym (λ i. bytes_cmp (take-append-drop n xs i) (take-append-drop n ys i)) ∙ e

-- the order of so many bytes from a place on
abbrev pub at_part : ℕ → ℕ → List ℕ → List ℕ → Ordering
at_part k at xs ys = bytes_cmp (take k (drop at xs)) (take k (drop at ys))

-- and of eight
abbrev pub at_eight : ℕ → List ℕ → List ℕ → Ordering
at_eight at xs ys = at_part 8 at xs ys

one_part : (k at : ℕ) (xs ys : List ℕ) → at + k ≤ length xs → at + k ≤ length ys
    → bytes_cmp (drop at xs) (drop at ys) ≡ ordering_then (at_part k at xs ys) (bytes_cmp (drop (at + k) xs) (drop (at + k) ys))
one_part k at xs ys lx ly =
    let e = front k (drop at xs) (drop at ys) (omega (arith, lx, length-drop at xs)) (omega (arith, ly, length-drop at ys)) in
    e ∙ (λ i. ordering_then (at_part k at xs ys) (bytes_cmp (drop-drop k at xs i) (drop-drop k at ys i)))

pub one_word : (at : ℕ) (xs ys : List ℕ) → at + 8 ≤ length xs → at + 8 ≤ length ys
    → bytes_cmp (drop at xs) (drop at ys) ≡ ordering_then (at_eight at xs ys) (bytes_cmp (drop (at + 8) xs) (drop (at + 8) ys))
one_word at xs ys lx ly = one_part 8 at xs ys lx ly

-- the last two words have bytes in common: the six bytes before them, those, and the bytes behind them
shared : (a b c : Ordering) → ordering_then (ordering_then a b) c ≡ ordering_then (ordering_then a b) (ordering_then b c)
shared Less b c = refl
shared Equal Less c = refl
shared Equal Equal c = refl
shared Equal Greater c = refl
shared Greater b c = refl

last_words : (xs ys : List ℕ) → length xs ≡ 30 → length ys ≡ 30
    → bytes_cmp (drop 16 xs) (drop 16 ys) ≡ ordering_then (at_eight 16 xs ys) (bytes_cmp (drop 22 xs) (drop 22 ys))
last_words xs ys lx ly =
    let before = bytes_cmp (take 6 (drop 16 xs)) (take 6 (drop 16 ys)) in
    let common = bytes_cmp (take 2 (drop 22 xs)) (take 2 (drop 22 ys)) in
    let behind = bytes_cmp (drop 24 xs) (drop 24 ys) in
    let cut : (zs : List ℕ) → take 8 (drop 16 zs) ≡ take 6 (drop 16 zs) ++ take 2 (drop 22 zs) = λ zs. take-add 6 2 (drop 16 zs) ∙ ap (λ (l : List ℕ). take 6 (drop 16 zs) ++ take 2 l) (drop-drop 6 16 zs) in
    let long : (n : ℕ) → length (drop n xs) ≡ length (drop n ys) = λ n. omega (arith, lx, ly, length-drop n xs, length-drop n ys) in
    let word : at_eight 16 xs ys ≡ ordering_then before common = (λ i. bytes_cmp (cut xs i) (cut ys i)) ∙ parts (take 6 (drop 16 xs)) (take 6 (drop 16 ys)) (take 2 (drop 22 xs)) (take 2 (drop 22 ys)) (omega (arith, long 16, length-take 6 (drop 16 xs), length-take 6 (drop 16 ys))) in
    let tail : bytes_cmp (drop 22 xs) (drop 22 ys) ≡ ordering_then common behind = front 2 (drop 22 xs) (drop 22 ys) (omega (arith, lx, length-drop 22 xs)) (omega (arith, ly, length-drop 22 ys)) ∙ (λ i. ordering_then common (bytes_cmp (drop-drop 2 22 xs i) (drop-drop 2 22 ys i))) in
    one_word 16 xs ys (omega (arith, lx)) (omega (arith, ly)) ∙ ap (λ o. ordering_then o behind) word ∙ shared before common behind ∙ (λ i. ordering_then (sym word i) (sym tail i))

pub blocks_order : (xs ys : List ℕ) → length xs ≡ 30 → length ys ≡ 30
    → bytes_cmp xs ys ≡ ordering_then (at_eight 0 xs ys) (ordering_then (at_eight 8 xs ys) (ordering_then (at_eight 16 xs ys) (at_eight 22 xs ys)))
blocks_order xs ys lx ly =
    let none : (zs : List ℕ) → length zs ≡ 30 → drop 30 zs ≡ [] = λ zs l. drop_of_length-le zs {i = 30} (omega (arith, l)) in
    let last : bytes_cmp (drop 22 xs) (drop 22 ys) ≡ at_eight 22 xs ys = one_word 22 xs ys (omega (arith, lx)) (omega (arith, ly)) ∙ (λ i. ordering_then (at_eight 22 xs ys) (bytes_cmp (none xs lx i) (none ys ly i))) ∙ then_equal (at_eight 22 xs ys) in
    one_word 0 xs ys (omega (arith, lx)) (omega (arith, ly))
    ∙ ap (ordering_then (at_eight 0 xs ys)) (one_word 8 xs ys (omega (arith, lx)) (omega (arith, ly)) ∙ ap (ordering_then (at_eight 8 xs ys)) (last_words xs ys lx ly ∙ ap (ordering_then (at_eight 16 xs ys)) last))

-- what the words before have left open, the next one decides
pub second_decides : (xs ys : List ℕ) → length xs ≡ 30 → length ys ≡ 30 → is_ne (at_eight 0 xs ys) ≡ false → is_ne (at_eight 8 xs ys) ≡ true → at_eight 8 xs ys ≡ bytes_cmp xs ys
second_decides xs ys lx ly a b =
    let rest = ordering_then (at_eight 16 xs ys) (at_eight 22 xs ys) in
    decided (at_eight 8 xs ys) rest b ∙ sym (tied (at_eight 0 xs ys) (ordering_then (at_eight 8 xs ys) rest) a) ∙ sym (blocks_order xs ys lx ly)

open_after_two : (xs ys : List ℕ) → length xs ≡ 30 → length ys ≡ 30 → is_ne (at_eight 0 xs ys) ≡ false → is_ne (at_eight 8 xs ys) ≡ false
    → bytes_cmp xs ys ≡ ordering_then (at_eight 16 xs ys) (at_eight 22 xs ys)
open_after_two xs ys lx ly a b =
    let rest = ordering_then (at_eight 16 xs ys) (at_eight 22 xs ys) in
    blocks_order xs ys lx ly ∙ tied (at_eight 0 xs ys) (ordering_then (at_eight 8 xs ys) rest) a ∙ tied (at_eight 8 xs ys) rest b

pub third_decides : (xs ys : List ℕ) → length xs ≡ 30 → length ys ≡ 30 → is_ne (at_eight 0 xs ys) ≡ false → is_ne (at_eight 8 xs ys) ≡ false → is_ne (at_eight 16 xs ys) ≡ true → at_eight 16 xs ys ≡ bytes_cmp xs ys
third_decides xs ys lx ly a b c = decided (at_eight 16 xs ys) (at_eight 22 xs ys) c ∙ sym (open_after_two xs ys lx ly a b)

pub last_decides : (xs ys : List ℕ) → length xs ≡ 30 → length ys ≡ 30 → is_ne (at_eight 0 xs ys) ≡ false → is_ne (at_eight 8 xs ys) ≡ false → is_ne (at_eight 16 xs ys) ≡ false → at_eight 22 xs ys ≡ bytes_cmp xs ys
last_decides xs ys lx ly a b c = sym (open_after_two xs ys lx ly a b ∙ tied (at_eight 16 xs ys) (at_eight 22 xs ys) c)

-- ---- lists of any length, word by word

pub word_ties : (i : ℕ) (xs ys : List ℕ) → i * 8 + 8 ≤ length xs → i * 8 + 8 ≤ length ys → is_ne (at_eight (i * 8) xs ys) ≡ false
    → bytes_cmp (drop (i * 8) xs) (drop (i * 8) ys) ≡ bytes_cmp (drop ((i + 1) * 8) xs) (drop ((i + 1) * 8) ys)
word_ties i xs ys lx ly e =
    let place : i * 8 + 8 ≡ (i + 1) * 8 = omega arith in
    one_word (i * 8) xs ys lx ly ∙ tied (at_eight (i * 8) xs ys) (bytes_cmp (drop (i * 8 + 8) xs) (drop (i * 8 + 8) ys)) e ∙ ap (λ n. bytes_cmp (drop n xs) (drop n ys)) place

pub word_decides : (at : ℕ) (xs ys : List ℕ) → at + 8 ≤ length xs → at + 8 ≤ length ys → is_ne (at_eight at xs ys) ≡ true → at_eight at xs ys ≡ bytes_cmp (drop at xs) (drop at ys)
word_decides at xs ys lx ly e = decided (at_eight at xs ys) (bytes_cmp (drop (at + 8) xs) (drop (at + 8) ys)) e ∙ sym (one_word at xs ys lx ly)

-- ---- whether blocks are the same

-- eight bytes three times, four and two are all
parts_order : (xs ys : List ℕ) → length xs ≡ 30 → length ys ≡ 30
    → bytes_cmp xs ys ≡ ordering_then (at_eight 0 xs ys) (ordering_then (at_eight 8 xs ys) (ordering_then (at_eight 16 xs ys) (ordering_then (at_part 4 24 xs ys) (at_part 2 28 xs ys))))
parts_order xs ys lx ly =
    let none : (zs : List ℕ) → length zs ≡ 30 → drop 30 zs ≡ [] = λ zs l. drop_of_length-le zs {i = 30} (omega (arith, l)) in
    let last : bytes_cmp (drop 28 xs) (drop 28 ys) ≡ at_part 2 28 xs ys = one_part 2 28 xs ys (omega (arith, lx)) (omega (arith, ly)) ∙ (λ i. ordering_then (at_part 2 28 xs ys) (bytes_cmp (none xs lx i) (none ys ly i))) ∙ then_equal (at_part 2 28 xs ys) in
    let four = one_part 4 24 xs ys (omega (arith, lx)) (omega (arith, ly)) ∙ ap (ordering_then (at_part 4 24 xs ys)) last in
    let third = one_word 16 xs ys (omega (arith, lx)) (omega (arith, ly)) ∙ ap (ordering_then (at_eight 16 xs ys)) four in
    let second = one_word 8 xs ys (omega (arith, lx)) (omega (arith, ly)) ∙ ap (ordering_then (at_eight 8 xs ys)) third in
    one_word 0 xs ys (omega (arith, lx)) (omega (arith, ly)) ∙ ap (ordering_then (at_eight 0 xs ys)) second

all_tied : (a b c d e : Ordering) → ((((is_eq a && is_eq b) && is_eq c) && is_eq d) && is_eq e) ≡ is_eq (ordering_then a (ordering_then b (ordering_then c (ordering_then d e))))
all_tied Equal Equal Equal Equal e = refl
all_tied Equal Equal Equal Less e = refl
all_tied Equal Equal Equal Greater e = refl
all_tied Equal Equal Less d e = refl
all_tied Equal Equal Greater d e = refl
all_tied Equal Less c d e = refl
all_tied Equal Greater c d e = refl
all_tied Less b c d e = refl
all_tied Greater b c d e = refl

pub blocks_same : (xs ys : List ℕ) → length xs ≡ 30 → length ys ≡ 30
    → ((((is_eq (at_eight 0 xs ys) && is_eq (at_eight 8 xs ys)) && is_eq (at_eight 16 xs ys)) && is_eq (at_part 4 24 xs ys)) && is_eq (at_part 2 28 xs ys)) ≡ pointwise nat_eq xs ys
blocks_same xs ys lx ly =
    all_tied (at_eight 0 xs ys) (at_eight 8 xs ys) (at_eight 16 xs ys) (at_part 4 24 xs ys) (at_part 2 28 xs ys) ∙ ap is_eq (sym (parts_order xs ys lx ly)) ∙ sym (texts_ties xs ys)
