-- What downsampling depends on.
use Rattle.std.specs.Prelude.{◌≡◌, ℕ, ℤ, List}
use Rattle.tsd_base.specs.declared.kinds.Down.{Down}
use Rattle.lerp_aggregate.specs.Laws.{AreAlike}
use Rattle.downsample.specs.Downsampling.{downsampled}

-- series that have the same value at every time make the same points
abbrev pub DependsOnValuesAlone : Type 0
DependsOnValuesAlone = (how : Down) (start end : ℕ) (xs ys : List (ℕ × ℤ)) → AreAlike xs ys → downsampled how start end xs ≡ downsampled how start end ys
