-- Queues of rows: finite sets, in order of base and then of the row's bytes.
use Rattle.std.specs.Prelude.{◌≡◌, ◌⊎◌, ◌↔◌, ℕ, Bool, true, false, List, All, AllPairs, Contains}
use Rattle.std.specs.declared.cmp.Ordering.{Ordering}
use Rattle.std.specs.declared.cmp.Ordering.TheVariants.{Less}
use Rattle.std.specs.Ordering.{nat_cmp, ordering_then}
use Rattle.row_key.specs.declared.tables.Table.TheVariants.{Points}
use Rattle.cell_model.specs.declared.row.Row.{Row}
use Rattle.cell_model.specs.declared.answers.Stored.{Stored}
use Rattle.list_lemmas.specs.BytesOrder.{bytes_cmp}
use Rattle.cell_model.specs.Readings.{point_row}

-- the row of a base and bytes
abbrev pub stored_of : ℕ × List ℕ → Stored
stored_of k = record { row = point_row k.1; base = k.0 }

-- a row of this base
abbrev pub stored_as : Row → ℕ → Stored
stored_as row base = record { row = row; base = base }

-- a base, and a row's bytes
abbrev pub KeyList : Type 0
KeyList = List (ℕ × List ℕ)

-- each of these keys is one of those
abbrev pub AreAmong : KeyList → KeyList → Type 0
AreAmong those these = (k : ℕ × List ℕ) → Contains these k → Contains those k

-- each of these keys is one of those or this one
abbrev pub AreAmongOr : KeyList → ℕ × List ℕ → KeyList → Type 0
AreAmongOr those key these = (k : ℕ × List ℕ) → Contains these k → Contains those k ⊎ (k ≡ key)

abbrev pub stored_cmp : Stored → Stored → Ordering
stored_cmp a b = ordering_then (nat_cmp a.base b.base) (bytes_cmp a.row.bytes b.row.bytes)

-- the rows are point rows, and rise by base, and at one base by their bytes; so each stands there once
pub record AreQueued (rows : List Stored) : Type 0 where
  pub rising : AllPairs (λ (a b : Stored). stored_cmp a b ≡ Less) rows
  pub in_points : All (λ (s : Stored). s.row.table ≡ Points) rows

-- the rows are the old ones and this one, which wasn't there
pub record Added (old : List Stored) (stored : Stored) (new : List Stored) : Type 0 where
  pub absent : Contains old stored → ⊥
  pub each : (s : Stored) → Contains new s ↔ (Contains old s ⊎ (s ≡ stored))

-- a row that was there is not added
abbrev pub AddMade : List Stored → Stored → Bool → List Stored → Type 0
AddMade old stored true new = Added old stored new
AddMade old stored false new = Contains old stored × (new ≡ old)

-- it holds what it held, and these rows
abbrev pub HasRows : List Stored → List Stored → List Stored → Type 0
HasRows before rows after = (s : Stored) → Contains after s ↔ (Contains before s ⊎ Contains rows s)
