-- Where a search for keys that are asked for goes on behind one that isn't.
use Rattle.std.specs.Prelude.{◌≡◌, ◌+◌, ℕ, ◌<◌, ◌≤◌, false, List, ◌++◌, take, Option, None, Some}
use Rattle.std.specs.declared.cmp.Ordering.TheVariants.{Less}
use Rattle.std.specs.Ordering.{is_lt}
use Rattle.std.specs.Cmp.Lexicographic.{slice_cmp}
use Rattle.row_key.specs.declared.widths.Widths.{Widths}
use Rattle.row_key.specs.declared.keys.RowKey.{RowKey}
use Rattle.row_key.specs.Key.{IsKey}
use Rattle.row_key.specs.KeyOrder.{key_cmp, pair_cmp}
use Rattle.metric_scan.specs.declared.id_filter.IdTest.{IdTest}
use Rattle.metric_scan.specs.IdFilters.{passes_test}
use Rattle.metric_scan.specs.Walks.{Picks}

-- the key is from this one on, and before that one
abbrev pub IsFromTo : RowKey → RowKey → RowKey → Type 0
IsFromTo from to key = (is_lt (key_cmp key from) ≡ false) × (key_cmp key to ≡ Less)

-- the target is a later key of the metric, and no key from this one on and before it is asked for
pub record JumpsOver (w : Widths) (picks : Picks) (key target : RowKey) : Type 0 where
  pub is_key : IsKey w target
  pub metric_is : target.metric ≡ key.metric
  pub later : key_cmp key target ≡ Less
  pub over : (k : RowKey) → IsKey w k → IsFromTo key target k → picks k.pairs.items ≡ false

-- the pairs of another key are not below those of this one, and begin with so many of them
pub record GoesOnFrom (key : RowKey) (place : ℕ) (k : RowKey) : Type 0 where
  pub from_on : is_lt (slice_cmp pair_cmp k.pairs.items key.pairs.items) ≡ false
  pub rest : List (ℕ × ℕ)
  pub pairs_are : k.pairs.items ≡ take place key.pairs.items ++ rest

-- the target is a later key of the metric, and each key from this one on and before it begins with so many of its pairs
pub record IsBehind (w : Widths) (key : RowKey) (place : ℕ) (target : RowKey) : Type 0 where
  pub is_key : IsKey w target
  pub metric_is : target.metric ≡ key.metric
  pub later : key_cmp key target ≡ Less
  pub alike : (k : RowKey) → IsKey w k → IsFromTo key target k → GoesOnFrom key place k

-- this one is behind the id, and there is none where it is the greatest
abbrev pub IsNextId : ℕ → ℕ → Option ℕ → Type 0
IsNextId most id (Some next) = (next ≡ id + 1) × (next ≤ most)
IsNextId most id None = most ≤ id

-- From the value on no id below the next one passes the test; where there is no next one, none does up to the greatest.
abbrev pub IsNextValue : ℕ → IdTest → ℕ → Option ℕ → Type 0
IsNextValue most test value (Some next) = (value < next) × (next ≤ most) × ((id : ℕ) → value ≤ id → id < next → passes_test test id ≡ false)
IsNextValue most test value None = (id : ℕ) → value ≤ id → id ≤ most → passes_test test id ≡ false
