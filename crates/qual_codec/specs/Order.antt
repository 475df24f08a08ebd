-- The order of qualifiers: which of two is at least as good.
use Rattle.std.specs.Prelude.{◌≡◌, ◌≢◌, ℕ, ◌≤◌, ◌⊎◌, true, false, List, Contains}
use Rattle.qual_codec.specs.declared.cells.Item.{Item}
use Rattle.qual_codec.specs.Items.{IsItems}

-- at one offset, j is as good as i or better: two bytes are better than four, and of one form the longer value is better
pub record IsAsGood (i j : Item) : Type 0 where
  pub offset : i.offset ≡ j.offset
  pub better : ((i.fine ≡ true) × (j.fine ≡ false)) ⊎ ((i.fine ≡ j.fine) × (i.len ≤ j.len))

-- q is at most r: both read, and at the offset of each item of q, r has an item that is as good
pub record IsAtMost (q r : List ℕ) : Type 0 where
  pub items : List Item
  pub others : List Item
  pub reads : IsItems q items
  pub others_read : IsItems r others
  pub each : (i : Item) → Contains items i → (j : Item) × Contains others j × IsAsGood i j

-- r is strictly above q
pub record IsBelow (q r : List ℕ) : Type 0 where
  pub at_most : IsAtMost q r
  pub differ : q ≢ r

-- a qualifier is one list of items
abbrev pub ItemsAreUnique : Type 0
ItemsAreUnique = (qual : List ℕ) (a b : List Item) → IsItems qual a → IsItems qual b → a ≡ b

-- each qualifier that reads is at most itself
abbrev pub OrderIsReflexive : Type 0
OrderIsReflexive = (q : List ℕ) (items : List Item) → IsItems q items → IsAtMost q q

-- what is at most another is at most all that this one is at most
abbrev pub OrderIsTransitive : Type 0
OrderIsTransitive = (q r s : List ℕ) → IsAtMost q r → IsAtMost r s → IsAtMost q s

-- two of which each is at most the other are one
abbrev pub OrderIsAntisymmetric : Type 0
OrderIsAntisymmetric = (q r : List ℕ) → IsAtMost q r → IsAtMost r q → q ≡ r

-- what is strictly above a qualifier is above all that are at most it, and so is all that it is at most
abbrev pub BelowExtends : Type 0
BelowExtends = (p q r s : List ℕ) → IsAtMost p q → IsBelow q r → IsAtMost r s → IsBelow p s
