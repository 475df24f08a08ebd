-- The members of tags, as pairs in the order of their keys.
use Rattle.std.proofs.Common.{◌≡◌, ℕ, ◌+◌, List, [], ◌∷◌, Ordering, Less, Equal, Greater, true, Some, Ok, refl, ap, ◌∙◌}
use Rattle.std.specs.List.{AllByRecursion}
use Rattle.std.specs.Ordering.{match_ordering}
use Rattle.std.specs.FinMap.Entries.{put, by_order}
use Rattle.json.specs.Json as json
use Rattle.serde_json.specs.Data as plain
use Rattle.serde_json.specs.Read.{of_members}
use Rattle.list_lemmas.specs.BytesOrder.{bytes_cmp}
use Rattle.tsd_base.specs.Names.{name_of}
use Rattle.tsd_base.specs.TagList.{Pair}
use Rattle.json_points.specs.Elements.{all_texts, pairs_in}
use Rattle.put_bodies.specs.LineWords.{onto}

-- the pairs as members
abbrev pub texts_of : List Pair → plain.Members
texts_of [] = plain.no_members
texts_of (pair ∷ pairs) = plain.member pair.0 (plain.string pair.1) (texts_of pairs)

-- one pair after the other, each in its place
abbrev pub gather : List Pair → List Pair → List Pair
gather sorted [] = sorted
gather sorted (pair ∷ pairs) = gather (put bytes_cmp pair.0 pair.1 sorted) pairs

put_texts : (k v : List ℕ) (pairs : List Pair) → plain.put k (plain.string v) (texts_of pairs) ≡ texts_of (put bytes_cmp k v pairs)
put_texts k v [] = refl
put_texts k v (p ∷ pairs) = at (bytes_cmp k p.0) (put_texts k v pairs)
  where
    at : (o : Ordering) → plain.put k (plain.string v) (texts_of pairs) ≡ texts_of (put bytes_cmp k v pairs)
        → match_ordering o (plain.member k (plain.string v) (texts_of (p ∷ pairs))) (plain.member p.0 (plain.string v) (texts_of pairs)) (plain.member p.0 (plain.string p.1) (plain.put k (plain.string v) (texts_of pairs)))
        ≡ texts_of (by_order o ((k, v) ∷ p ∷ pairs) ((p.0, v) ∷ pairs) (p ∷ put bytes_cmp k v pairs))
    at Less e = refl
    at Equal e = refl
    at Greater e = ap (plain.member p.0 (plain.string p.1)) e

-- what members that are strings read as
pub strings_read : (pairs sorted : List Pair) → of_members (onto pairs json.no_members) (texts_of sorted) ≡ Some (texts_of (gather sorted pairs))
strings_read [] sorted = refl
strings_read (p ∷ pairs) sorted = ap (of_members (onto pairs json.no_members)) (put_texts p.0 p.1 sorted) ∙ strings_read pairs (put bytes_cmp p.0 p.1 sorted)

pub all_strings : (pairs : List Pair) → all_texts (texts_of pairs) ≡ true
all_strings [] = refl
all_strings (p ∷ pairs) = all_strings pairs

-- ---- names

-- each side is a name
abbrev pub AreNamed : List Pair → Type 0
AreNamed pairs = AllByRecursion (λ p. (name_of p.0 ≡ Ok p.0) × (name_of p.1 ≡ Ok p.1)) pairs

named_put : (p : Pair) (sorted : List Pair) → name_of p.0 ≡ Ok p.0 → name_of p.1 ≡ Ok p.1 → AreNamed sorted → AreNamed (put bytes_cmp p.0 p.1 sorted)
named_put p [] key value named = ((key, value), tt)
named_put p (q ∷ sorted) key value named =
    elim (bytes_cmp p.0 q.0) as (λ r. AreNamed (by_order r (p ∷ q ∷ sorted) ((q.0, p.1) ∷ sorted) (q ∷ put bytes_cmp p.0 p.1 sorted))) [
      | Less ↦ ((key, value), named)
      | Equal ↦ ((named.0.0, value), named.1)
      | Greater ↦ (named.0, named_put p sorted key value named.1)
    ]

pub named_gather : (pairs sorted : List Pair) → AreNamed pairs → AreNamed sorted → AreNamed (gather sorted pairs)
named_gather [] sorted named had = had
named_gather (p ∷ pairs) sorted named had = named_gather pairs (put bytes_cmp p.0 p.1 sorted) named.1 (named_put p sorted named.0.0 named.0.1 had)

-- the pairs of such members are these
pub named_pairs : (index : ℕ) (pairs : List Pair) → AreNamed pairs → pairs_in index (texts_of pairs) ≡ Ok pairs
named_pairs index [] named = refl
named_pairs index (p ∷ pairs) named = rw (named.0.0, named.0.1, named_pairs (index + 1) pairs named.1) refl
