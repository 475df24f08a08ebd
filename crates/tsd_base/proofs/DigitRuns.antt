-- Digits that are read some at a time.
use Rattle.std.proofs.Common.{◌≡◌, ℕ, suc, ◌+◌, ◌-◌, ◌*◌, ◌/◌, ◌%◌, ◌^◌, ◌<◌, ◌≤◌, min, true, false, List, [], ◌∷◌, ◌++◌, length, take, drop, Option, Some, None, refl, sym, ap, subst, ◌∙◌, pow-suc, mul_assoc, mul-le-mul_right, length-append, length-take, length-drop, take-append-drop, arith, w32, w64}
use Rattle.std.proofs.Math.Nat.{pow-le-pow_right}
use Rattle.std.proofs.lemmas.Bool.{and_parts}
use Rattle.std.proofs.lemmas.Bool.Decides.{nat_tests}
use Rattle.std.proofs.lemmas.List.{take_rest}
use Rattle.std.proofs.lemmas.List.Folds.{list_all-append}
use Rattle.std.proofs.lemmas.Int.Digits.{digits_value-lt}
use Rattle.std.specs.Prelude.{MatchOption}
use Rattle.std.specs.Char.{digit_value, is_ascii_digit}
use Rattle.std.specs.Int.{from_le_bytes}
use Rattle.std.specs.List.{list_all}
use Rattle.std.specs.Str.Parse.{digits_value, digits_value_after}
use Rattle.tsd_base.specs.Digits.{is_number}
use Rattle.tsd_base.proofs.Numerals.{AllDigits-from_list_all}

digit_is : (c : ℕ) → is_ascii_digit c ≡ true → digit_value c + 48 ≡ c
digit_is c e = grind (arith, nat_tests)

digit-lt : (c : ℕ) → is_ascii_digit c ≡ true → digit_value c < 10
digit-lt c e = grind (arith, nat_tests)

-- ---- digits before others

digits_value_after-is : (n : ℕ) (ds : List ℕ) → digits_value_after 10 n ds ≡ n * 10 ^ length ds + digits_value 10 ds
digits_value_after-is n [] = omega arith
digits_value_after-is n (c ∷ cs) =
    let a = digits_value_after-is (n * 10 + digit_value c) cs in
    let b = digits_value_after-is (0 * 10 + digit_value c) cs in
    omega (arith, a, b, ap (λ x. n * x) (pow-suc 10 (length cs)))

digits_value_after-append : (n : ℕ) (xs ys : List ℕ) → digits_value_after 10 n (xs ++ ys) ≡ digits_value_after 10 (digits_value_after 10 n xs) ys
digits_value_after-append n [] ys = refl
digits_value_after-append n (x ∷ xs) ys = digits_value_after-append (n * 10 + digit_value x) xs ys

digits_value-append : (xs ys : List ℕ) → digits_value 10 (xs ++ ys) ≡ digits_value 10 xs * 10 ^ length ys + digits_value 10 ys
digits_value-append xs ys = digits_value_after-append 0 xs ys ∙ digits_value_after-is _ ys

pub digits_value-most : (k : ℕ) (text : List ℕ) → length text ≤ k → list_all is_ascii_digit text ≡ true → digits_value 10 text < 10 ^ k
digits_value-most k text few e =
    let below = digits_value-lt 10 text (AllDigits-from_list_all text e) in
    let most : 10 ^ length text ≤ 10 ^ k = pow-le-pow_right {n = 10} (omega arith) few in
    omega (arith, below, most)

pub is_number-some : (text : List ℕ) → 0 < length text → is_number text ≡ list_all is_ascii_digit text
is_number-some [] some = absurd (omega arith)
is_number-some (c ∷ cs) some = refl

joined : (first rest : List ℕ) (number : ℕ) (r : Option ℕ) → 0 < length first → length first + length rest ≤ 18 → list_all is_ascii_digit first ≡ true → number ≡ digits_value 10 first
    → MatchOption r (list_all is_ascii_digit rest ≡ false) (λ n. (list_all is_ascii_digit rest ≡ true) × (n ≡ number * 10 ^ length rest + digits_value 10 rest))
    → MatchOption r (is_number (first ++ rest) ≡ false) (λ n. (is_number (first ++ rest) ≡ true) × (n ≡ min (digits_value 10 (first ++ rest)) (2 ^ 64 - 1)))
joined first rest number None some few digits value h = rw (is_number-some (first ++ rest) (omega (arith, length-append first rest)), list_all-append is_ascii_digit first rest, digits) h
joined first rest number (Some n) some few digits value h =
    let all : list_all is_ascii_digit (first ++ rest) ≡ true = rw (list_all-append is_ascii_digit first rest, digits) h.0 in
    let below = digits_value-most 18 (first ++ rest) (omega (arith, length-append first rest)) all in
    let same = ap (λ x. x * 10 ^ length rest + digits_value 10 rest) value in
    (is_number-some (first ++ rest) (omega (arith, length-append first rest)) ∙ all, omega (arith, below, same, h.1, digits_value-append first rest))

-- what is read behind the first k digits
pub read_behind : (text first : List ℕ) (k number : ℕ) (r : Option ℕ) → 0 < k → k ≤ length text → length text ≤ 18 → first ≡ take k text → (list_all is_ascii_digit first ≡ true) × (number ≡ digits_value 10 first)
    → MatchOption r (list_all is_ascii_digit (take (length text - k) (drop k text)) ≡ false) (λ n. (list_all is_ascii_digit (take (length text - k) (drop k text)) ≡ true) × (n ≡ number * 10 ^ length (take (length text - k) (drop k text)) + digits_value 10 (take (length text - k) (drop k text))))
    → MatchOption r (is_number text ≡ false) (λ n. (is_number text ≡ true) × (n ≡ min (digits_value 10 text) (2 ^ 64 - 1)))
read_behind text first k number r some long few is digits h =
    let whole : first ++ drop k text ≡ text = ap (λ xs. xs ++ drop k text) is ∙ take-append-drop k text in
    let size : length first ≡ k = ap length is ∙ omega (arith, length-take k text) in
    subst (λ t. MatchOption r (is_number t ≡ false) (λ n. (is_number t ≡ true) × (n ≡ min (digits_value 10 t) (2 ^ 64 - 1)))) whole
    (joined first (drop k text) number r (omega (arith, size)) (omega (arith, size, length-drop k text)) digits.0 digits.1
    (subst (λ t. MatchOption r (list_all is_ascii_digit t ≡ false) (λ n. (list_all is_ascii_digit t ≡ true) × (n ≡ number * 10 ^ length t + digits_value 10 t))) (take_rest text k) h))

pub one_more : (number i : ℕ) → number * 10 ^ (i + 1) ≡ number * 10 ^ i * 10
one_more number i =
    let next : i + 1 ≡ suc i = omega arith in
    ap (λ k. number * 10 ^ k) next ∙ ap (λ x. number * x) (pow-suc 10 i) ∙ sym (mul_assoc number (10 ^ i) 10)

-- so many digits behind a number leave room for one more
pub room : (number n : ℕ) (text : List ℕ) (i : ℕ) → number < 10 ^ 8 → length text ≤ 10 → i < length text → n ≡ number * 10 ^ i + digits_value 10 (take i text) → list_all is_ascii_digit (take i text) ≡ true → n < 10 ^ 17
room number n text i small few inside value digits =
    let below = digits_value-lt 10 (take i text) (AllDigits-from_list_all (take i text) digits) in
    let count : length (take i text) ≡ i = omega (arith, inside, length-take i text) in
    let most : i ≤ 9 = omega (arith, inside, few) in
    let power : 10 ^ i ≤ 10 ^ 9 = pow-le-pow_right {n = 10} (omega arith) most in
    let same = ap (λ k. 10 ^ k) count in
    let product : number * 10 ^ i ≤ (10 ^ 8 - 1) * 10 ^ i = mul-le-mul_right (10 ^ i) (omega (arith, small)) in
    omega (arith, below, same, power, product, value)

-- ---- digits in the bytes of a word

at16 : (low mid high x : ℕ) → low < 2 ^ 16 → mid < 256 → x ≡ low + 2 ^ 16 * (mid + 256 * high) → x / 65536 % 256 ≡ mid
at16 low mid high x l m e = omega arith

at32 : (low mid high x : ℕ) → low < 2 ^ 32 → mid < 256 → x ≡ low + 2 ^ 32 * (mid + 256 * high) → x / 4294967296 % 256 ≡ mid
at32 low mid high x l m e = omega arith

at48 : (low mid high x : ℕ) → low < 2 ^ 48 → mid < 256 → x ≡ low + 2 ^ 48 * (mid + 256 * high) → x / 281474976710656 % 256 ≡ mid
at48 low mid high x l m e = omega arith

four_digits : (a b c d x : ℕ) → a < 10 → b < 10 → c < 10 → d < 10 → x ≡ a + 2 ^ 8 * b + 2 ^ 16 * c + 2 ^ 24 * d
    → (x * 10 + x / 256) % 256 * 100 + (x * 10 + x / 256) / 65536 % 256 ≡ ((a * 10 + b) * 10 + c) * 10 + d
four_digits a b c d x la lb lc ld e =
    let down : x / 256 ≡ b + 2 ^ 8 * c + 2 ^ 16 * d = omega (arith, e, la) in
    let pairs : x * 10 + x / 256 ≡ (10 * a + b + 2 ^ 8 * (10 * b + c)) + 2 ^ 16 * (10 * c + d + 2 ^ 8 * (10 * d)) = omega (arith, e, down) in
    let first : (x * 10 + x / 256) % 256 ≡ 10 * a + b = omega (arith, pairs, la, lb) in
    let last = at16 (10 * a + b + 2 ^ 8 * (10 * b + c)) (10 * c + d) (10 * d) (x * 10 + x / 256) (omega arith) (omega arith) pairs in
    omega (arith, first, last)

eight_digits : (a b c d f g h i x : ℕ) → a < 10 → b < 10 → c < 10 → d < 10 → f < 10 → g < 10 → h < 10 → i < 10 → x ≡ a + 2 ^ 8 * b + 2 ^ 16 * c + 2 ^ 24 * d + 2 ^ 32 * f + 2 ^ 40 * g + 2 ^ 48 * h + 2 ^ 56 * i
    → ((x * 10 + x / 256) % 256 * 100 + (x * 10 + x / 256) / 65536 % 256) * 10000 + ((x * 10 + x / 256) / 4294967296 % 256 * 100 + (x * 10 + x / 256) / 281474976710656 % 256)
    ≡ ((((((a * 10 + b) * 10 + c) * 10 + d) * 10 + f) * 10 + g) * 10 + h) * 10 + i
eight_digits a b c d f g h i x la lb lc ld lf lg lh li e =
    let down : x / 256 ≡ b + 2 ^ 8 * c + 2 ^ 16 * d + 2 ^ 24 * f + 2 ^ 32 * g + 2 ^ 40 * h + 2 ^ 48 * i = omega (arith, e, la) in
    let pairs : x * 10 + x / 256 ≡ 10 * a + b + 2 ^ 8 * (10 * b + c) + 2 ^ 16 * (10 * c + d) + 2 ^ 24 * (10 * d + f) + 2 ^ 32 * (10 * f + g) + 2 ^ 40 * (10 * g + h) + 2 ^ 48 * (10 * h + i) + 2 ^ 56 * (10 * i) = omega (arith, e, down) in
    let one : (x * 10 + x / 256) % 256 ≡ 10 * a + b = omega (arith, pairs, la, lb) in
    let two = at16 (10 * a + b + 2 ^ 8 * (10 * b + c)) (10 * c + d) (10 * d + f + 2 ^ 8 * (10 * f + g) + 2 ^ 16 * (10 * g + h) + 2 ^ 24 * (10 * h + i) + 2 ^ 32 * (10 * i)) (x * 10 + x / 256) (omega arith) (omega arith) (omega (arith, pairs)) in
    let three = at32 (10 * a + b + 2 ^ 8 * (10 * b + c) + 2 ^ 16 * (10 * c + d) + 2 ^ 24 * (10 * d + f)) (10 * f + g) (10 * g + h + 2 ^ 8 * (10 * h + i) + 2 ^ 16 * (10 * i)) (x * 10 + x / 256) (omega arith) (omega arith) (omega (arith, pairs)) in
    let four = at48 (10 * a + b + 2 ^ 8 * (10 * b + c) + 2 ^ 16 * (10 * c + d) + 2 ^ 24 * (10 * d + f) + 2 ^ 32 * (10 * f + g) + 2 ^ 40 * (10 * g + h)) (10 * h + i) (10 * i) (x * 10 + x / 256) (omega arith) (omega arith) (omega (arith, pairs)) in
    omega (arith, one, two, three, four)

pub value_of_four : (text : List ℕ) (word : ℕ) → length text ≡ 4 → list_all is_ascii_digit text ≡ true → word ≡ from_le_bytes w32 text
    → ((word - 808464432) * 10 + (word - 808464432) / 256) % 256 * 100 + ((word - 808464432) * 10 + (word - 808464432) / 256) / 65536 % 256 ≡ digits_value 10 text
value_of_four [] word long digits is = absurd (omega arith)
value_of_four (a ∷ []) word long digits is = absurd (omega arith)
value_of_four (a ∷ b ∷ []) word long digits is = absurd (omega arith)
value_of_four (a ∷ b ∷ c ∷ []) word long digits is = absurd (omega arith)
value_of_four (a ∷ b ∷ c ∷ d ∷ e ∷ text) word long digits is = absurd (omega arith)
value_of_four (a ∷ b ∷ c ∷ d ∷ []) word long digits is =
    let pa = and_parts _ _ digits in
    let pb = and_parts _ _ pa.1 in
    let pc = and_parts _ _ pb.1 in
    let pd = and_parts _ _ pc.1 in
    let sum : word - 808464432 ≡ digit_value a + 2 ^ 8 * digit_value b + 2 ^ 16 * digit_value c + 2 ^ 24 * digit_value d = omega (arith, is, digit_is a pa.0, digit_is b pb.0, digit_is c pc.0, digit_is d pd.0) in
    four_digits (digit_value a) (digit_value b) (digit_value c) (digit_value d) (word - 808464432) (digit-lt a pa.0) (digit-lt b pb.0) (digit-lt c pc.0) (digit-lt d pd.0) sum ∙ omega arith

pub value_of_eight : (text : List ℕ) (word : ℕ) → length text ≡ 8 → list_all is_ascii_digit text ≡ true → word ≡ from_le_bytes w64 text
    → (((word - 3472328296227680304) * 10 + (word - 3472328296227680304) / 256) % 256 * 100 + ((word - 3472328296227680304) * 10 + (word - 3472328296227680304) / 256) / 65536 % 256) * 10000 + (((word - 3472328296227680304) * 10 + (word - 3472328296227680304) / 256) / 4294967296 % 256 * 100 + ((word - 3472328296227680304) * 10 + (word - 3472328296227680304) / 256) / 281474976710656 % 256) ≡ digits_value 10 text
value_of_eight [] word long digits is = absurd (omega arith)
value_of_eight (a ∷ []) word long digits is = absurd (omega arith)
value_of_eight (a ∷ b ∷ []) word long digits is = absurd (omega arith)
value_of_eight (a ∷ b ∷ c ∷ []) word long digits is = absurd (omega arith)
value_of_eight (a ∷ b ∷ c ∷ d ∷ []) word long digits is = absurd (omega arith)
value_of_eight (a ∷ b ∷ c ∷ d ∷ f ∷ []) word long digits is = absurd (omega arith)
value_of_eight (a ∷ b ∷ c ∷ d ∷ f ∷ g ∷ []) word long digits is = absurd (omega arith)
value_of_eight (a ∷ b ∷ c ∷ d ∷ f ∷ g ∷ h ∷ []) word long digits is = absurd (omega arith)
value_of_eight (a ∷ b ∷ c ∷ d ∷ f ∷ g ∷ h ∷ i ∷ j ∷ text) word long digits is = absurd (omega arith)
value_of_eight (a ∷ b ∷ c ∷ d ∷ f ∷ g ∷ h ∷ i ∷ []) word long digits is =
    let pa = and_parts _ _ digits in
    let pb = and_parts _ _ pa.1 in
    let pc = and_parts _ _ pb.1 in
    let pd = and_parts _ _ pc.1 in
    let pf = and_parts _ _ pd.1 in
    let pg = and_parts _ _ pf.1 in
    let ph = and_parts _ _ pg.1 in
    let pi = and_parts _ _ ph.1 in
    let sum : word - 3472328296227680304 ≡ digit_value a + 2 ^ 8 * digit_value b + 2 ^ 16 * digit_value c + 2 ^ 24 * digit_value d + 2 ^ 32 * digit_value f + 2 ^ 40 * digit_value g + 2 ^ 48 * digit_value h + 2 ^ 56 * digit_value i = omega (arith, is, digit_is a pa.0, digit_is b pb.0, digit_is c pc.0, digit_is d pd.0, digit_is f pf.0, digit_is g pg.0, digit_is h ph.0, digit_is i pi.0) in
    eight_digits (digit_value a) (digit_value b) (digit_value c) (digit_value d) (digit_value f) (digit_value g) (digit_value h) (digit_value i) (word - 3472328296227680304) (digit-lt a pa.0) (digit-lt b pb.0) (digit-lt c pc.0) (digit-lt d pd.0) (digit-lt f pf.0) (digit-lt g pg.0) (digit-lt h ph.0) (digit-lt i pi.0) sum ∙ omega arith
