-- The tags of rows, by the names of their ids.
use Rattle.std.specs.Prelude.{◌≡◌, ℕ, ◌<◌, ◌≤◌, List, length, AllPairs, Contains, Some}
use Rattle.tsd_base.specs.declared.kinds.Kind.{Kind}
use Rattle.metric_scan.specs.RowNames.{IdOf, Names, HasName, ids_of}

-- no two ids of a kind have one name
abbrev pub OneToOne : Names → Type 0
OneToOne names = (kind : Kind) (i j : ℕ) (name : List ℕ) → names kind i ≡ Some name → names kind j ≡ Some name → i ≡ j

-- pairs of a key: 1 to 8, rising by their first ids, each of which has a name
pub record ArePairs (names : Names) (pairs : List (ℕ × ℕ)) : Type 0 where
  pub some : 1 ≤ length pairs
  pub most : length pairs ≤ 8
  pub rising : AllPairs (λ p q. p.0 < q.0) pairs
  pub named : (i : IdOf) → Contains (ids_of pairs) i → HasName names i
