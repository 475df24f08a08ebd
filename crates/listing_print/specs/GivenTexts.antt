-- Texts that are given piece by piece.
use Rattle.std.specs.Prelude.{◌≡◌, ℕ, List, ◌++◌, Option}
use Rattle.std.specs.Io.KnownBytes.{Appends}
use Rattle.cell_model.specs.declared.row.ListLine.{ListLine}
use Rattle.cell_listing.specs.Grammar.{cells_text}

-- a front of the text was given
pub record GaveFront (held held' : Option (List ℕ)) (text : List ℕ) : Type 0 where
  pub front : List ℕ
  pub gives : Appends held held' front
  pub rest : List ℕ
  pub text_is : text ≡ front ++ rest

-- the text that waited was given up to what still waits
pub record GaveUpTo (held held' : Option (List ℕ)) (waited waits : List ℕ) : Type 0 where
  pub given : List ℕ
  pub gives : Appends held held' given
  pub waited_is : waited ≡ given ++ waits

-- a part was given, some waits, and with the lines of the cells that are left it is the text
pub record Printing (held held' : Option (List ℕ)) (waits : List ℕ) (left : List ListLine) (text : List ℕ) : Type 0 where
  pub given : List ℕ
  pub gives : Appends held held' given
  pub text_is : text ≡ given ++ (waits ++ cells_text left)
