-- The ranges that a next row may look through: each lies among the rows of one region.
use Rattle.std.specs.Prelude.{◌≡◌, ◌⊎◌, ℕ, false, List, [], ◌∷◌, ◌++◌, length}
use Rattle.std.specs.Ordering.{is_lt}
use Rattle.row_key.specs.declared.widths.Widths.{Widths}
use Rattle.row_key.specs.declared.tables.Table.{Table}
use Rattle.row_key.specs.declared.tables.Table.TheVariants.{Ids, Names, Points}
use Rattle.list_lemmas.specs.BytesOrder.{bytes_cmp}

-- both begin with the bytes of one metric's id
pub record SameMetric (w : Widths) (from to : List ℕ) : Type 0 where
  pub metric : List ℕ
  pub from_rest : List ℕ
  pub to_rest : List ℕ
  pub whole : length metric ≡ w.metric
  pub from_is : from ≡ metric ++ from_rest
  pub to_is : to ≡ metric ++ to_rest

-- both are from this byte on, and not above that one
pub record IsWithin (low high : ℕ) (from to : List ℕ) : Type 0 where
  pub from_on : is_lt (bytes_cmp from (low ∷ [])) ≡ false
  pub from_at : is_lt (bytes_cmp (high ∷ []) from) ≡ false
  pub to_on : is_lt (bytes_cmp to (low ∷ [])) ≡ false
  pub to_at : is_lt (bytes_cmp (high ∷ []) to) ≡ false

-- names by their first byte: up to 40, capitals up to 60, a to m, n to z; points by metric; no range of Names
abbrev pub InOneRange : Widths → Table → List ℕ → List ℕ → Type 0
InOneRange w Ids from to = IsWithin 1 65 from to ⊎ IsWithin 65 97 from to ⊎ IsWithin 97 110 from to ⊎ IsWithin 110 123 from to
InOneRange w Points from to = SameMetric w from to
InOneRange w Names from to = ⊥
