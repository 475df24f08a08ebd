-- Making tags of pairs.
use Rattle.std.specs.Prelude.{◌≡◌, ℕ, Bool, not, ◌&&◌, nat_lt, List, [], ◌∷◌, ◌++◌, length, Option, Some, None, Result, Ok, Err, IfSome, IsSomeAnd, MatchResult, false, if◌then◌else◌}
use Rattle.std.specs.List.{list_any}
use Rattle.std.specs.FinMap.{from_entries, entries, find, put}
use Rattle.tsd_base.specs.declared.tags.TagsFault.{TagsFault}
use Rattle.tsd_base.specs.declared.tags.TagsFault.TheVariants.{NoTags, TwoValues, TooManyTags, OutOfMemory}
use Rattle.list_lemmas.specs.BytesOrder.{bytes_cmp}
use Rattle.tsd_base.specs.TagList.{IsPair}
pub use Rattle.tsd_base.specs.TagList.{Pair, is_same, IsTags}

-- two pairs of one key with different values
abbrev pub contradicts : Pair → Pair → Bool
contradicts p q = is_same p.0 q.0 && not (is_same p.1 q.1)

-- the key of the first pair, from the left, that contradicts an earlier one
abbrev pub contradicted_key : List Pair → List Pair → Option (List ℕ)
contradicted_key earlier [] = None
contradicted_key earlier (pair ∷ pairs) = if list_any (contradicts pair) earlier then Some pair.0 else contradicted_key (earlier ++ pair ∷ []) pairs

-- each pair once, rising by key
abbrev pub distinct_pairs : List Pair → List Pair
distinct_pairs pairs = entries (from_entries {R = bytes_cmp} pairs)

-- pairs without a contradiction
abbrev pub counted : List Pair → Result (List Pair) TagsFault
counted pairs = if nat_lt 8 (length pairs) then Err (TooManyTags (length pairs)) else Ok pairs

abbrev pub uncontradicted : Option (List ℕ) → List Pair → Result (List Pair) TagsFault
uncontradicted (Some key) pairs = Err (TwoValues key)
uncontradicted None pairs = counted (distinct_pairs pairs)

-- the tags that the pairs make, or what is wrong with them
unfoldable pub tags_of : List Pair → Result (List Pair) TagsFault
tags_of [] = Err NoTags
tags_of (pair ∷ pairs) = uncontradicted (contradicted_key [] (pair ∷ pairs)) (pair ∷ pairs)

-- a pair goes to its place by key, where no other value stood under its key
pub record Adds (pair : Pair) (old new : List Pair) : Type 0 where
  pub agrees : IfSome (find bytes_cmp pair.0 old) (λ value. value ≡ pair.1)
  pub added : new ≡ put bytes_cmp pair.0 pair.1 old
  pub named : IsPair pair

-- another value stands under the pair's key, or there was no memory
abbrev pub Refuses : Pair → List Pair → TagsFault → Type 0
Refuses pair old OutOfMemory = Unit {0}
Refuses pair old (TwoValues key) = (key ≡ pair.0) × IsSomeAnd (find bytes_cmp pair.0 old) (λ value. is_same value pair.1 ≡ false)
Refuses pair old fault = ⊥

-- want of memory may always be told; any other fault is that of the pairs
abbrev pub FailsTags : {A : Type 0} → TagsFault → Result A TagsFault → Type 0
FailsTags OutOfMemory made = Unit {0}
FailsTags NoTags made = made ≡ Err NoTags
FailsTags (TwoValues key) made = made ≡ Err (TwoValues key)
FailsTags (TooManyTags count) made = made ≡ Err (TooManyTags count)

-- the answer is what the pairs make
abbrev pub GivesTags : Result (List Pair) TagsFault → List Pair → Type 0
GivesTags answer pairs = MatchResult answer (λ tags. tags_of pairs ≡ Ok tags) (λ fault. FailsTags fault (tags_of pairs))
