-- Where a byte string is kept.
use Rattle.std.specs.Prelude.{◌≡◌, ◌≤◌, ◌-◌, ℕ, List, ◌++◌, length, take, drop, replicate}
use Rattle.std.specs.Int.{w64, to_le_bytes}
use Rattle.short_bytes.specs.declared.short.Kept.{Kept}
use Rattle.short_bytes.specs.declared.short.Kept.TheVariants.{Short, Long}

abbrev pub listed : Kept → List ℕ
listed (Short len block) = take len block
listed (Long list) = list.items

-- a block of which the first len bytes count, and the rest are zeros
abbrev pub IsFilled : ℕ → List ℕ → Type 0
IsFilled len block = (len ≤ 30) × (drop len block ≡ replicate (30 - len) 0)

abbrev pub IsKept : Kept → Type 0
IsKept (Short len block) = IsFilled len block
IsKept (Long list) = Unit {0}

-- up to eight bytes, filled up with zeros, are those of a word, of which the first counts least
abbrev pub IsSpelled : List ℕ → ℕ → Type 0
IsSpelled bytes word = (length bytes ≤ 8) × (to_le_bytes w64 word ≡ bytes ++ replicate (8 - length bytes) 0)
