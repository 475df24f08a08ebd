-- Tags as lists of pairs.
use Rattle.std.specs.Prelude.{◌≡◌, ℕ, ◌<◌, ◌≤◌, Bool, ◌&&◌, nat_eq, List, length, take, drop, slice_index_or, All, AllPairs}
use Rattle.std.specs.List.{AllByRecursion}
use Rattle.std.specs.Ordering.{on, then_cmp}
use Rattle.std.specs.Cmp.{IsTotalOrder}
use Rattle.std.specs.Cmp.Lexicographic.{slice_cmp, pointwise}
use Rattle.std.specs.FinMap.{IsAntisymmetric}
use Rattle.std.specs.declared.cmp.Ordering.{Ordering}
use Rattle.std.specs.declared.cmp.Ordering.TheVariants.{Less}
use Rattle.list_lemmas.specs.BytesOrder.{bytes_cmp}
use Rattle.tsd_base.specs.Alphabet.{IsName}

-- a key and a value
abbrev pub Pair : Type 0
Pair = List ℕ × List ℕ

abbrev pub is_same : List ℕ → List ℕ → Bool
is_same = pointwise nat_eq

abbrev pub is_same_pair : Pair → Pair → Bool
is_same_pair p q = is_same p.0 q.0 && is_same p.1 q.1

abbrev pub is_same_tags : List Pair → List Pair → Bool
is_same_tags = pointwise is_same_pair

-- by key, and then by value
abbrev pub pair_cmp : Pair → Pair → Ordering
pair_cmp = then_cmp (on (λ p. p.0) bytes_cmp) (on (λ p. p.1) bytes_cmp)

-- the first pairs that differ decide
abbrev pub tags_cmp : List Pair → List Pair → Ordering
tags_cmp = slice_cmp pair_cmp

-- any two lists of pairs compare, and only equal ones tie
pub record TagsAreOrdered : Type 0 where
  pub total : IsTotalOrder tags_cmp
  pub exact : IsAntisymmetric tags_cmp

abbrev pub IsPair : Pair → Type 0
IsPair pair = IsName pair.0 × IsName pair.1

abbrev pub RiseByKey : List Pair → Type 0
RiseByKey pairs = AllPairs (λ p q. bytes_cmp p.0 q.0 ≡ Less) pairs

-- 1 to 8 pairs of names, rising by key
pub record IsTags (pairs : List Pair) : Type 0 where
  pub some : 1 ≤ length pairs
  pub most : length pairs ≤ 8
  pub rising : RiseByKey pairs
  pub names : AllByRecursion IsPair pairs

-- a pair of the key is here
pub record StandsAt (pairs : List Pair) (key : List ℕ) (at : ℕ) : Type 0 where
  pub within : at < length pairs
  pub same : (d : Pair) → (slice_index_or pairs at d).0 ≡ key

-- no pair is of the key, which would stand here
pub record WouldStandAt (pairs : List Pair) (key : List ℕ) (at : ℕ) : Type 0 where
  pub within : at ≤ length pairs
  pub before : All (λ p. bytes_cmp p.0 key ≡ Less) (take at pairs)
  pub behind : All (λ p. bytes_cmp key p.0 ≡ Less) (drop at pairs)
