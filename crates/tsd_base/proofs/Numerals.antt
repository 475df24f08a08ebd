-- Numbers in decimal digits.
use Rattle.std.proofs.Common.{◌≡◌, ℕ, ◌-◌, ◌^◌, ◌<◌, min, Bool, true, false, List, [], ◌∷◌, length, get_or, drop, refl, ap, inl, inr, one-add, arith, Err, take_while, if◌then◌else◌}
use Rattle.std.specs.Char.{digit_value, is_ascii_digit}
use Rattle.std.specs.List.{list_all}
use Rattle.std.specs.Str.Parse.{digits_value, AllDigits}
use Rattle.std.proofs.lemmas.Bool.{cases_Bool, and_parts}
use Rattle.std.proofs.lemmas.List.{drop_all, drop_more}
use Rattle.std.proofs.lemmas.List.Sums.{take_while-cons}
use Rattle.std.proofs.lemmas.Bool.Decides.{nat_tests}
use Rattle.std.proofs.lemmas.Int.Digits.{digits_value-lt}
use Rattle.tsd_base.specs.Digits.{is_number}
use Rattle.tsd_base.specs.Values.{unsigned_of, signed_of, number_of, is_float_mark}
use Rattle.tsd_base.specs.declared.values.ValueFault.TheVariants.{Float, BadValue}

digit_value-lt : (c : ℕ) → is_ascii_digit c ≡ true → digit_value c < 10
digit_value-lt c e = grind (arith, nat_tests)

pub AllDigits-from_list_all : (text : List ℕ) → list_all is_ascii_digit text ≡ true → AllDigits 10 text
AllDigits-from_list_all [] e = tt
AllDigits-from_list_all (c ∷ text) e = let parts = and_parts _ _ e in (digit_value-lt c parts.0, AllDigits-from_list_all text parts.1)

-- k digits are below the k-th power of ten
pub digits_value-number : (text : List ℕ) → is_number text ≡ true → digits_value 10 text < 10 ^ length text
digits_value-number [] e = cc
digits_value-number (c ∷ text) e = digits_value-lt 10 (c ∷ text) (AllDigits-from_list_all (c ∷ text) e)

pub digits_value_three : (text : List ℕ) → is_number text ≡ true → length text ≡ 3 → digits_value 10 text < 1000
digits_value_three text e three = rw three at (digits_value-number text e)

-- a text that is no number has a byte behind the digits that it begins with
length-take_while-lt : (text : List ℕ) → list_all is_ascii_digit text ≡ false → length (take_while is_ascii_digit text) < length text
length-take_while-lt [] e = cc
length-take_while-lt (c ∷ text) e =
    elim (cases_Bool (is_ascii_digit c)) [
      | inl d ↦ let rest = length-take_while-lt text (rw d at e) in rw (take_while-cons is_ascii_digit c text, d) (omega arith)
      | inr d ↦ rw (take_while-cons is_ascii_digit c text, d) (omega arith)
    ]

pub digits_stop : (text : List ℕ) → is_number text ≡ false → 0 < length (take_while is_ascii_digit text) → length (take_while is_ascii_digit text) < length text
digits_stop [] e some = absurd (omega arith)
digits_stop (c ∷ text) e some = length-take_while-lt (c ∷ text) e

-- a number is all digits
take_while-number : (text : List ℕ) → list_all is_ascii_digit text ≡ true → take_while is_ascii_digit text ≡ text
take_while-number [] e = refl
take_while-number (c ∷ text) e = let parts = and_parts (is_ascii_digit c) (list_all is_ascii_digit text) e in rw (parts.0, one-add) (ap (λ t. c ∷ t) (take_while-number text parts.1))

pub unsigned_of-number : (negative : Bool) (text : List ℕ) → is_number text ≡ true → unsigned_of negative text ≡ signed_of negative (digits_value 10 text)
unsigned_of-number negative [] e = cc
unsigned_of-number negative (c ∷ text) e = rw (take_while-number (c ∷ text) e, drop_all (length (c ∷ text)) (c ∷ text) (omega arith))

-- a number past the last `u64` is as much outside `i64` as the last `u64` is
pub signed_of-min : (negative : Bool) (n : ℕ) → signed_of negative (min n (2 ^ 64 - 1)) ≡ signed_of negative n
signed_of-min true n = grind (arith, nat_tests)
signed_of-min false n = grind (arith, nat_tests)

number_of-rest : (negative : Bool) (digits text : List ℕ) → 0 < length digits → length digits < length text → number_of negative digits (drop (length digits) text) ≡ (if is_float_mark (get_or text (length digits) 0) then Err Float else Err BadValue)
number_of-rest negative [] text h k = absurd (omega arith)
number_of-rest negative (d ∷ ds) text h k = rw (drop_more text (length (d ∷ ds)) 0 k)

-- digits with another byte behind them
pub unsigned_of-rest : (negative : Bool) (text : List ℕ) (count : ℕ) → count ≡ length (take_while is_ascii_digit text) → 0 < count → is_number text ≡ false → unsigned_of negative text ≡ (if is_float_mark (get_or text count 0) then Err Float else Err BadValue)
unsigned_of-rest negative text count at some e =
    let some' : 0 < length (take_while is_ascii_digit text) = omega arith in
    rw at (number_of-rest negative (take_while is_ascii_digit text) text some' (digits_stop text e some'))

pub ruleset values = (nat_tests, unsigned_of-number, signed_of-min, unsigned_of-rest, digits_stop)
