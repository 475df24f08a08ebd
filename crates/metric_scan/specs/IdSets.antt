-- Ids in order.
use Rattle.std.specs.Prelude.{ℕ, ◌<◌, ◌≤◌, List, length, get_or, All, Option, None, Some}
use Rattle.std.specs.List.Sorted.{IsNonDecreasingBy}

-- no id is below one before it
abbrev pub Rise : List ℕ → Type 0
Rise ids = IsNonDecreasingBy (λ id. id) ids

-- the ids before this place are up to the value, and those from it on are above
abbrev pub IsPlaceAbove : ℕ → List ℕ → ℕ → Type 0
IsPlaceAbove value ids at = (at ≤ length ids) × ((k : ℕ) (d : ℕ) → k < at → get_or ids k d ≤ value) × ((k : ℕ) (d : ℕ) → at ≤ k → k < length ids → value < get_or ids k d)

-- of the ids above the value, up to the greatest, this is the least, and there is none where none of them is above it
abbrev pub IsLeastAbove : ℕ → ℕ → List ℕ → Option ℕ → Type 0
IsLeastAbove most value ids (Some least) = (value < least) × (least ≤ most) × All (λ id. value < id → least ≤ id) ids
IsLeastAbove most value ids None = All (λ id. value < id → most < id) ids
