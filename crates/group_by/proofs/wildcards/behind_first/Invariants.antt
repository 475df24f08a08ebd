use Rattle.std.proofs.Common.{◌≡◌, ℕ, List, ◌∷◌, length}
use Rattle.group_by.specs.Wildcards.{some_end, fills}
use Rattle.group_by.proofs.wildcards.behind_first.Given as goal

-- the part isn't found before
abbrev pub invariant-loop-rest : goal.invariant-loop-rest
invariant-loop-rest l = (next : List ℕ) (parts : List (List ℕ)) → some_end (fills (l.part ∷ next ∷ parts)) l.value ≡ some_end (fills (l.part ∷ next ∷ parts)) l.end

abbrev pub decreases-loop-rest : goal.decreases-loop-rest
decreases-loop-rest l = length l.end
