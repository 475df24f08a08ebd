-- Points of one series.
use Rattle.std.specs.Prelude.{ℕ, ◌<◌, List, AllPairs, ℤ}
use Rattle.std.specs.List.{AllByRecursion}

-- the times rise
abbrev pub IsRising : List (ℕ × ℤ) → Type 0
IsRising dots = AllPairs (λ p q. p.0 < q.0) dots

-- later than each point
abbrev pub IsAboveAll : ℕ → List (ℕ × ℤ) → Type 0
IsAboveAll time dots = AllByRecursion (λ d. d.0 < time) dots
