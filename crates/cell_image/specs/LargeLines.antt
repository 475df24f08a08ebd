-- The line that tells which cell is too large for an image.
use Rattle.std.specs.Prelude.{ℕ, List, ◌++◌, codes, decimal}

abbrev pub large_line : ℕ → List ℕ
large_line cell = codes "image: cell " ++ decimal cell ++ codes " too large\n"
