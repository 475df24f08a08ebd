-- The pairs of words KEY=VALUE.
use Rattle.std.proofs.Common.{◌≡◌, ℕ, suc, ◌+◌, Bool, true, false, List, [], ◌∷◌, ◌++◌, length, map, drop, take, position, Option, None, Some, Result, Ok, Err, refl, sym, ap, ◌∙◌, one-add, arith}
use Rattle.std.specs.Prelude.{if◌then◌else◌}
use Rattle.std.specs.List.{AllByRecursion, before_first, after_first, list_any, position_or_len}
use Rattle.std.proofs.lemmas.Bool.{and_parts}
use Rattle.std.proofs.lemmas.Bool.Decides.{nat_tests}
use Rattle.tsd_base.specs.declared.names.NameFault.{NameFault}
use Rattle.tsd_base.specs.declared.points.PointFault.{PointFault}
use Rattle.tsd_base.specs.declared.points.PointFault.TheVariants.{TagKey, TagValue}
use Rattle.tsd_base.specs.Names.{is_bad_byte, name_of, without_bad_byte}
use Rattle.tsd_base.specs.Points.{◌>>=◌, is_equals, pairs_of, tag_of, told_as}
use Rattle.tsd_base.specs.TagList.{Pair}
use Rattle.put_bodies.specs.LineWords.{is_word_byte, AreWordBytes, IsTagText, pair_word}
use Rattle.put_bodies.proofs.TagMembers.{AreNamed}

-- ---- the sides of a word

no_equals : (b : ℕ) → is_word_byte b ≡ true → is_equals b ≡ false
no_equals b e = grind (arith, nat_tests)

found : (k v : List ℕ) → AreWordBytes k → list_any is_equals (k ++ 61 ∷ v) ≡ true
found [] v e = refl
found (b ∷ k) v e = let parts = and_parts _ _ e in rw (no_equals b parts.0) (found k v parts.1)

place : (k v : List ℕ) → AreWordBytes k → position_or_len is_equals (k ++ 61 ∷ v) ≡ length k
place [] v e = refl
place (b ∷ k) v e = let parts = and_parts _ _ e in rw (no_equals b parts.0, one-add, place k v parts.1) refl

front : (k v : List ℕ) → take (length k) (k ++ v) ≡ k
front [] v = refl
front (b ∷ k) v = ap (λ (x : List ℕ). b ∷ x) (front k v)

next : (k : List ℕ) (b : ℕ) (v : List ℕ) → drop (suc (length k)) (k ++ b ∷ v) ≡ v
next [] b v = refl
next (c ∷ k) b v = next k b v

behind : (k : List ℕ) (b : ℕ) (v : List ℕ) → drop (length k + 1) (k ++ b ∷ v) ≡ v
behind k b v = let more : length k + 1 ≡ suc (length k) = omega arith in ap (λ n. drop n (k ++ b ∷ v)) more ∙ next k b v

sides : (k v : List ℕ) → AreWordBytes k → (before_first is_equals (k ++ 61 ∷ v) ≡ k) × (after_first is_equals (k ++ 61 ∷ v) ≡ v)
sides k v e = (ap (λ n. take n (k ++ 61 ∷ v)) (place k v e) ∙ front k (61 ∷ v), ap (λ n. drop (n + 1) (k ++ 61 ∷ v)) (place k v e) ∙ behind k 61 v)

abbrev named_pair : ℕ → List ℕ → List ℕ → Result Pair PointFault
named_pair index key value = told_as (TagKey index) (name_of key) >>= λ k. told_as (TagValue index) (name_of value) >>= λ v. Ok (k, v)

tag_is : (index : ℕ) (k v : List ℕ) → AreWordBytes k → tag_of index (k ++ 61 ∷ v) ≡ named_pair index k v
tag_is index k v e = let s = sides k v e in rw (found k v e) (ap (λ x. named_pair index x (after_first is_equals (k ++ 61 ∷ v))) s.0 ∙ ap (named_pair index k) s.1)

-- ---- names

two_answers : {A E : Type 0} (e : E) (a : A) → ◌≡◌ {A = Result A E} (Err e) (Ok a) → ⊥
two_answers e a is = cc

same_Ok : {A E : Type 0} (a b : A) → ◌≡◌ {A = Result A E} (Ok a) (Ok b) → a ≡ b
same_Ok a b is = cc

by_place : (o : Option ℕ) (bytes name : List ℕ) → without_bad_byte bytes o ≡ Ok name → name ≡ bytes
by_place None bytes name is = sym (same_Ok bytes name is)
by_place (Some at) bytes name is = absurd (two_answers _ name is)

by_length : (long : Bool) (fault : NameFault) (bytes name : List ℕ) → (if long then Err fault else without_bad_byte bytes (position is_bad_byte bytes)) ≡ Ok name → name ≡ bytes
by_length true fault bytes name is = absurd (two_answers _ name is)
by_length false fault bytes name is = by_place (position is_bad_byte bytes) bytes name is

-- a name is its bytes
pub name_is : (bytes name : List ℕ) → name_of bytes ≡ Ok name → name ≡ bytes
unfolding name_of
name_is [] name is = absurd (two_answers _ name is)
name_is (b ∷ bytes) name is = by_length _ _ (b ∷ bytes) name is

-- ---- the pairs of all words

abbrev IsRead : Pair → Pair → Type 0
IsRead p q = (q ≡ p) × (name_of p.0 ≡ Ok p.0) × (name_of p.1 ≡ Ok p.1)

pair_read : (index : ℕ) (p q : Pair) (k v : Result (List ℕ) NameFault) → name_of p.0 ≡ k → name_of p.1 ≡ v → (told_as (TagKey index) k >>= λ k. told_as (TagValue index) v >>= λ v. Ok (k, v)) ≡ Ok q → IsRead p q
pair_read index p q (Err e) v ke ve is = absurd (two_answers _ q is)
pair_read index p q (Ok k) (Err e) ke ve is = absurd (two_answers _ q is)
pair_read index p q (Ok k) (Ok v) ke ve is =
    let same : (k, v) ≡ q = same_Ok (k, v) q is in
    let key = name_is p.0 k ke in
    let value = name_is p.1 v ve in
    (sym same ∙ (λ i. (key i, value i)), ke ∙ ap (λ (x : List ℕ). Ok x) key, ve ∙ ap (λ (x : List ℕ). Ok x) value)

pub record AreRead (pairs read : List Pair) : Type 0 where
  pub same : read ≡ pairs
  pub named : AreNamed pairs

with_more : (index : ℕ) (p : Pair) (pairs read : List Pair) (first : Result Pair PointFault) (rest : Result (List Pair) PointFault) → ((q : Pair) → first ≡ Ok q → IsRead p q) → ((more : List Pair) → rest ≡ Ok more → AreRead pairs more)
    → (first >>= λ pair. rest >>= λ pairs. Ok (pair ∷ pairs)) ≡ Ok read → AreRead (p ∷ pairs) read
with_more index p pairs read (Err e) rest one more is = absurd (two_answers _ read is)
with_more index p pairs read (Ok q) (Err e) one more is = absurd (two_answers _ read is)
with_more index p pairs read (Ok q) (Ok qs) one more is =
    let whole : q ∷ qs ≡ read = same_Ok (q ∷ qs) read is in
    let here = one q refl in
    let there = more qs refl in
    record { same = sym whole ∙ (λ i. here.0 i ∷ there.same i); named = ((here.1, here.2), there.named) }

-- the pairs that such words read as are theirs, and are of names
pub pairs_read : (index : ℕ) (pairs read : List Pair) → AllByRecursion IsTagText pairs → pairs_of index (map pair_word pairs) ≡ Ok read → AreRead pairs read
unfolding pairs_of
pairs_read index [] read all is = record { same = sym (same_Ok [] read is); named = tt }
pairs_read index (p ∷ pairs) read all is =
    with_more index p pairs read (tag_of index (pair_word p)) (pairs_of (index + 1) (map pair_word pairs))
    (λ q e. pair_read index p q (name_of p.0) (name_of p.1) refl refl (sym (tag_is index p.0 p.1 all.0.0) ∙ e))
    (λ more e. pairs_read (index + 1) pairs more all.1 e) is
