-- Lines that are taken one after the other.
use Rattle.std.specs.Prelude.{◌≡◌, List, [], ◌++◌}
use Rattle.cell_model.specs.declared.row.ListLine.{ListLine}

-- what took some lines and then more took both, and what ended within the later ones ended within both
pub record JoinsLines {S : Type 0} (took ended : List ListLine → S → S → Type 0) : Type 0 where
  pub none : (a : S) → took [] a a
  pub on : (xs ys : List ListLine) (a b c : S) → took xs a b → took ys b c → took (xs ++ ys) a c
  pub stays : (xs : List ListLine) (a : S) → ended xs a a
  pub ends : (xs ys : List ListLine) (a b c : S) → took xs a b → ended ys b c → ended (xs ++ ys) a c
  pub part : (xs ys : List ListLine) (a b : S) → ended xs a b → ended (xs ++ ys) a b

-- of all lines those that aren't left were taken
pub record TookUpTo {S : Type 0} (took : List ListLine → S → S → Type 0) (all left : List ListLine) (a b : S) : Type 0 where
  pub lines : List ListLine
  pub taken : took lines a b
  pub all_is : all ≡ lines ++ left
