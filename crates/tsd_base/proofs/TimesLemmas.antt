-- Times read of numbers.
use Rattle.std.proofs.Common.{◌≡◌, ℕ, ◌-◌, ◌^◌, ◌<◌, ◌≤◌, min, true, false, List, [], ◌∷◌, length, slice_index, take, drop, ap, arith}
use Rattle.std.specs.Char.{is_ascii_digit}
use Rattle.std.specs.Str.Parse.{digits_value}
use Rattle.std.proofs.lemmas.Bool.Decides.{nat_tests}
use Rattle.std.proofs.lemmas.List.{take_rest}
use Rattle.std.proofs.lemmas.List.Folds.{list_all_at}
use Rattle.tsd_base.specs.Digits.{is_number}
use Rattle.tsd_base.specs.Times.{time_of, whole_time, dotted_of, dotted_time, is_dotted, no_time}
use Rattle.tsd_base.proofs.Numerals.{digits_value_three}

-- a dot is no digit
is_number-dotted : (text : List ℕ) → 10 < length text → slice_index text 10 ≡ 46 → is_number text ≡ false
is_number-dotted [] long dot = absurd (omega arith)
is_number-dotted (c ∷ text) long dot = list_all_at is_ascii_digit (c ∷ text) 10 0 long (ap is_ascii_digit dot)

pub time_of-dotted : (text : List ℕ) → length text ≡ 14 → slice_index text 10 ≡ 46 → time_of text ≡ dotted_of (take 10 text) (take (length text - 11) (drop 11 text))
unfolding time_of
time_of-dotted text long dot = rw (take_rest, is_number-dotted text (omega arith) dot, long, dot)

pub time_of-number : (text : List ℕ) → is_number text ≡ true → time_of text ≡ whole_time (digits_value 10 text)
unfolding time_of
time_of-number text number = rw number

pub time_of-other : (text : List ℕ) → is_number text ≡ false → is_dotted text ≡ false → time_of text ≡ no_time
unfolding time_of
time_of-other text other plain = rw (other, plain)

-- a number past the last `u64` is no time, and neither is the last `u64`
pub whole_time-min : (n : ℕ) → whole_time (min n (2 ^ 64 - 1)) ≡ whole_time n
whole_time-min n = grind (arith, nat_tests)

-- numbers that were read are those of the digits where they are small
pub dotted_of-read : (seconds millis : List ℕ) (second milli : ℕ) → is_number seconds ≡ true → is_number millis ≡ true → length millis ≡ 3 → second ≡ min (digits_value 10 seconds) (2 ^ 64 - 1) → milli ≡ min (digits_value 10 millis) (2 ^ 64 - 1) → second ≤ 4294967295 → dotted_of seconds millis ≡ dotted_time second milli
dotted_of-read seconds millis second milli s m three a b most =
    let v : digits_value 10 seconds ≡ second = omega arith in
    let w : digits_value 10 millis ≡ milli = omega (arith, digits_value_three millis m three) in
    rw (s, m, v, w)

pub ruleset times = (nat_tests, time_of-dotted, time_of-number, time_of-other, whole_time-min, dotted_of-read, digits_value_three)
