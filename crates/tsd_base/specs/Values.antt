-- Values in text.
use Rattle.std.specs.Prelude.{ℕ, ◌^◌, Bool, true, false, ◌||◌, nat_eq, nat_lt, nat_le, List, [], ◌∷◌, length, drop, take_while, ℤ, pos, neg_ℤ, Result, Ok, Err, if◌then◌else◌}
use Rattle.std.specs.Char.{is_ascii_digit}
use Rattle.std.specs.Str.Parse.{digits_value}
use Rattle.tsd_base.specs.declared.values.ValueFault.{ValueFault}
use Rattle.tsd_base.specs.declared.values.ValueFault.TheVariants.{Float, BadValue, ValueTooLarge}

-- . e E
abbrev pub is_float_mark : ℕ → Bool
is_float_mark c = nat_eq c 46 || nat_eq c 101 || nat_eq c 69

-- a number with its sign, where an i64 has it
abbrev pub signed_of : Bool → ℕ → Result ℤ ValueFault
signed_of false n = if nat_lt n (2 ^ 63) then Ok (pos n) else Err ValueTooLarge
signed_of true n = if nat_le n (2 ^ 63) then Ok (neg_ℤ (pos n)) else Err ValueTooLarge

-- the value of digits, and of what stands behind them
abbrev pub number_of : Bool → List ℕ → List ℕ → Result ℤ ValueFault
number_of negative [] rest = Err BadValue
number_of negative (d ∷ ds) [] = signed_of negative (digits_value 10 (d ∷ ds))
number_of negative (d ∷ ds) (c ∷ rest) = if is_float_mark c then Err Float else Err BadValue

abbrev pub unsigned_of : Bool → List ℕ → Result ℤ ValueFault
unsigned_of negative text = number_of negative (take_while is_ascii_digit text) (drop (length (take_while is_ascii_digit text)) text)

-- the value of a text, or what is wrong with it
unfoldable pub value_of : List ℕ → Result ℤ ValueFault
value_of [] = Err BadValue
value_of (c ∷ cs) = if nat_eq c 43 then unsigned_of false cs else (if nat_eq c 45 then unsigned_of true cs else unsigned_of false (c ∷ cs))
