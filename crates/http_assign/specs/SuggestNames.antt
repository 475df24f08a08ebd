-- What a suggestion is answered, over a history.
use Rattle.std.specs.Prelude.{ℕ, List}
use Rattle.tsd_base.specs.declared.kinds.Kind.{Kind}
use Rattle.cell_model.specs.History.{History, first}
use Rattle.cell_model.specs.Deeds.{deeds}
use Rattle.uid_table.specs.Suggest.{AllLooks, IsFirstOf, IsResolved}

-- the caller only looked for next rows
abbrev pub SuggestBegun : History → ℕ → ℕ → ℕ → Type 0
SuggestBegun h caller n n2 = AllLooks (deeds h caller n n2)

-- the names are the first of a set that lies between those with an id at the first length and those with one at the second
pub record SuggestAsked (h : History) (caller n : ℕ) (kind : Kind) (prefix : List ℕ) (max : ℕ) (names : List (List ℕ)) (n2 : ℕ) : Type 0 where
  pub firsts : IsFirstOf prefix max (IsResolved kind (first n h)) (IsResolved kind (first n2 h)) names
  pub looks : SuggestBegun h caller n n2
