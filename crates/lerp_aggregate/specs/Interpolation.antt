-- The value of a series between two of its readings.
use Rattle.std.specs.Prelude.{ℕ, ◌-◌, ℤ, pos, ◌+ℤ◌, ◌-ℤ◌, ◌*ℤ◌, int_div, List, [], ◌∷◌, Option, Some, None, filter, nat_lt, if◌then◌else◌}

-- the value at a time on the line between two readings, the quotient toward zero
abbrev pub lerp : ℕ × ℤ → ℕ × ℤ → ℕ → ℤ
lerp before after time = before.1 +ℤ int_div (pos (time - before.0) *ℤ (after.1 -ℤ before.1)) (pos (after.0 - before.0))

-- of a reading and another that may be there, the one at the lesser distance; the first where both are as far
abbrev pub nearer : (ℕ → ℕ) → ℕ × ℤ → Option (ℕ × ℤ) → ℕ × ℤ
nearer distance p None = p
nearer distance p (Some q) = if nat_lt (distance q.0) (distance p.0) then q else p

-- the first reading at the least distance
abbrev pub nearest : (ℕ → ℕ) → List (ℕ × ℤ) → Option (ℕ × ℤ)
nearest distance [] = None
nearest distance (p ∷ readings) = Some (nearer distance p (nearest distance readings))

-- the nearest reading before a time, and the nearest after it
abbrev pub nearest_before : List (ℕ × ℤ) → ℕ → Option (ℕ × ℤ)
nearest_before series time = nearest (λ u. time - u) (filter (λ p. nat_lt p.0 time) series)

abbrev pub nearest_after : List (ℕ × ℤ) → ℕ → Option (ℕ × ℤ)
nearest_after series time = nearest (λ u. u - time) (filter (λ p. nat_lt time p.0) series)

-- on the line between the two, where both are there
abbrev pub between : Option (ℕ × ℤ) → Option (ℕ × ℤ) → ℕ → Option ℤ
between (Some before) (Some after) time = Some (lerp before after time)
between (Some before) None time = None
between None after time = None
