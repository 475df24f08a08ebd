-- How many bytes an id has, and the ids that they hold.
use Rattle.std.specs.Prelude.{ℕ, ◌-◌, ◌^◌, ◌≤◌, List}
use Rattle.std.specs.Int.{bytes_high_first}

-- an id has 2, 3 or 4 bytes
abbrev pub IsWidth : ℕ → Type 0
IsWidth width = (2 ≤ width) × (width ≤ 4)

-- the greatest number that so many bytes hold, which is also how many ids a kind has whose ids have so many
abbrev pub most_ids : ℕ → ℕ
most_ids width = 256 ^ width - 1

-- an id fits its bytes and isn't 0
abbrev pub IsId : ℕ → ℕ → Type 0
IsId width id = (1 ≤ id) × (id ≤ most_ids width)

-- the bytes of an id, the highest first
abbrev pub id_bytes : ℕ → ℕ → List ℕ
id_bytes width id = bytes_high_first width id
