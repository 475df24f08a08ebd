-- The tags that all series of a group have.
use Rattle.std.specs.Prelude.{ℕ, Bool, not, ◌&&◌, List, [], ◌∷◌, map, filter}
use Rattle.std.specs.List.{list_any, list_all}
use Rattle.tsd_base.specs.TagList.{Pair, is_same, is_same_pair}

abbrev pub has_pair : Pair → List Pair → Bool
has_pair pair tags = list_any (is_same_pair pair) tags

abbrev pub has_key : List ℕ → List Pair → Bool
has_key key tags = list_any (λ pair. is_same key pair.0) tags

-- the pairs that all of the series have
abbrev pub shared_pairs : List (List Pair) → List Pair
shared_pairs [] = []
shared_pairs (tags ∷ others) = filter (λ pair. list_all (has_pair pair) others) tags

-- the keys that all of the series have, without one common value
abbrev pub aggregate_keys : List (List Pair) → List (List ℕ)
aggregate_keys [] = []
aggregate_keys (tags ∷ others) =
    map (λ pair. pair.0) (filter (λ pair. list_all (has_key pair.0) others && not (list_all (has_pair pair) others)) tags)
