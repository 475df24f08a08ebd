-- Arguments, read one after the other.
use Rattle.std.specs.Prelude.{◌≡◌, ℕ, ◌&&◌, nat_le, List, ◌++◌, Option, None, Some, Result, Ok, Err, MatchResult, if◌then◌else◌}
use Rattle.std.specs.Str.Parse.{digits_value}
use Rattle.tsd_base.specs.Digits.{is_number}
use Rattle.http_series.specs.declared.argument_fault.ArgumentFault.{ArgumentFault}
use Rattle.http_series.specs.declared.argument_fault.ArgumentFault.TheVariants.{OutOfMemory}

-- what comes after what was read, where it was
infixl 10 ◌>>=◌
abbrev pub ◌>>=◌ : {A B : Type 0} → Result A ArgumentFault → (A → Result B ArgumentFault) → Result B ArgumentFault
(Ok x) >>= f = f x
(Err e) >>= f = Err e

-- what is there, or else the fault
abbrev pub or_fault : {A : Type 0} → ArgumentFault → Option A → Result A ArgumentFault
or_fault fault None = Err fault
or_fault fault (Some x) = Ok x

-- these, and those that are read behind them
abbrev pub with_front : {A : Type 0} → List A → Result (List A) ArgumentFault → Result (List A) ArgumentFault
with_front front (Ok rest) = Ok (front ++ rest)
with_front front (Err fault) = Err fault

-- a number between two, both included
abbrev pub within : ℕ → ℕ → ℕ → Option ℕ
within least most n = if nat_le least n && nat_le n most then Some n else None

-- the same in digits, of any length
abbrev pub number_within : ℕ → ℕ → List ℕ → Option ℕ
number_within least most text = if is_number text then within least most (digits_value 10 text) else None

-- the number that a text is, or this one where nothing is said
abbrev pub number_or : ℕ → ℕ → ℕ → Option (List ℕ) → Option ℕ
number_or usual least most None = Some usual
number_or usual least most (Some text) = number_within least most text

-- want of memory may always be told; any other fault is the request's own
abbrev pub Fails : {A : Type 0} → ArgumentFault → Result A ArgumentFault → Type 0
Fails OutOfMemory read = Unit {0}
Fails fault read = read ≡ Err fault

-- what was read is what reading gives
abbrev pub Gives : {A B : Type 0} → (A → B) → Result A ArgumentFault → Result B ArgumentFault → Type 0
Gives seen answer read = MatchResult answer (λ found. read ≡ Ok (seen found)) (λ fault. Fails fault read)
