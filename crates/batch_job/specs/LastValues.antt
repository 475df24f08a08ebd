-- Of the values that a series has at one time, the last one.
use Rattle.std.specs.Option.{option_or}
use Rattle.std.specs.Prelude.{ℕ, ℤ, Bool, true, nat_eq, nat_lt, List, [], ◌∷◌, Option, None, Some, if◌then◌else◌}

-- the value of the last reading with this time
abbrev pub last_at : List (ℕ × ℤ) → ℕ → Option ℤ
last_at [] time = None
last_at (d ∷ dots) time = option_or (last_at dots time) (if nat_eq d.0 time then Some d.1 else None)

-- the time is later than the latest so far
abbrev pub is_later : ℕ → Option ℕ → Bool
is_later time None = true
is_later time (Some latest) = nat_lt latest time
