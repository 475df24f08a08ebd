-- A cell of one item reads.
use Rattle.std.proofs.Common.{◌≡◌, inl, List, ℕ, [], ◌∷◌, true}
use Rattle.std.specs.Prelude.{Option, None, Some, IfSome, is_some}
use Rattle.qual_codec.specs.declared.cells.Dot.{Dot}
use Rattle.qual_codec.specs.CellDots.{IsDots, Reads}

pub one_dot : (qual value : List ℕ) (o : Option Dot) → IfSome o (λ d. IsDots qual value (d ∷ [])) → is_some o ≡ true → Reads qual value
one_dot qual value (Some d) dots e = (d ∷ [], inl dots)
one_dot qual value None dots e = absurd cc
