-- The rows of a queue, and the keys of its set.
use Rattle.std.proofs.Common.{◌≡◌, ◌⊎◌, inl, inr, ℕ, ◌<◌, ◌≤◌, Bool, true, false, List, [], ◌∷◌, ◌++◌, length, refl, sym, ap, subst, ◌∙◌, arith}
use Rattle.std.specs.Prelude.{◌↔◌, Contains, IsTrue, Some, Result, Ok, Err, OnErr, map, not, slice_get, slice_index_or}
use Rattle.std.specs.declared.alloc.AllocError.{AllocError}
use Rattle.std.specs.Bool.{OnFalse}
use Rattle.std.specs.declared.cmp.Ordering.{Ordering}
use Rattle.std.specs.declared.cmp.Ordering.TheVariants.{Less, Equal, Greater}
use Rattle.std.specs.Ordering.{nat_cmp, ordering_then, match_ordering}
use Rattle.std.specs.Cmp.{IsTotalOrder, ranked, then_total, on_total, nat_cmp_total}
use Rattle.std.specs.Cmp.Lexicographic.{slice_cmp, nat_list_cmp_total}
use Rattle.std.specs.BTreeSet.{BTreeSet, IsOrdered, IsUnchanged, contains, insert_key}
use Rattle.std.proofs.lemmas.List.{get_or-map, length-map}
use Rattle.std.proofs.lemmas.Map.Keys.{Less-from_sorted}
use Rattle.std.proofs.lemmas.Map.Lookups.{CmpEqualImpliesEq, exact_pairs, exact_unsigned, exact_bytes}
use Rattle.std.proofs.lemmas.List.Elements.{Contains-append_cases}
use Rattle.std.proofs.lemmas.Map.Views.{btree_set_contains_iff}
use Rattle.row_key.specs.declared.tables.Table.TheVariants.{Points}
use Rattle.cell_model.specs.declared.row.Row.{Row}
use Rattle.cell_model.specs.declared.answers.Stored.{Stored}
use Rattle.compactor.specs.Queues.{stored_of, stored_cmp, AreQueued, AddMade, AreAmong, AreAmongOr}
use Rattle.compactor.specs.Drains.{IsNextBelow, NoneBelow}
use Rattle.compactor.proofs.Lower as lower

abbrev Key : Type 0
Key = ℕ × List ℕ

abbrev key_cmp : Key → Key → Ordering
key_cmp a b = ordering_then (nat_cmp a.0 b.0) (slice_cmp nat_cmp a.1 b.1)

keys_total : IsTotalOrder key_cmp
keys_total = then_total (on_total (λ (k : Key). k.0) nat_cmp_total) (on_total (λ (k : Key). k.1) nat_list_cmp_total)

keys_exact : CmpEqualImpliesEq key_cmp
keys_exact = exact_pairs nat_cmp (slice_cmp nat_cmp) exact_unsigned exact_bytes

-- the rows of keys in order are those of a queue
pub are_queued : (s : BTreeSet Key) → IsOrdered key_cmp s → AreQueued (map stored_of s.keys)
are_queued s up = record {
  rising = λ i j d lt within.
      let n = length-map s.keys stored_of in
      let last : j < length s.keys = omega (arith, within, n) in
      let e : Key = (0, []) in
      let less = Less-from_sorted key_cmp s.keys i j e up lt last in
      (λ k. stored_cmp (get_or-map stored_of s.keys i e d (omega (arith, lt, last)) k) (get_or-map stored_of s.keys j e d last k)) ∙ less;
  in_points = lower.all_of (λ (x : Stored). x.row.table ≡ Points) (map stored_of s.keys) (λ x c. let w = lower.map_in stored_of s.keys x c in ap (λ (y : Stored). y.row.table) (sym w.2));
}

-- ---- one key more

in_inserted : (ks : List Key) (k x : Key) → Contains (insert_key key_cmp ks k) x → Contains ks x ⊎ (x ≡ k)
in_inserted [] k x c = elim (lower.split k x [] c) [ inl same ↦ inr (sym same) | inr later ↦ absurd (lower.not_in x later) ]
in_inserted (y ∷ ks) k x c = at (key_cmp k y) c (in_inserted ks k x)
  where
    at : (r : Ordering) → Contains (match_ordering r (k ∷ y ∷ ks) (y ∷ ks) (y ∷ insert_key key_cmp ks k)) x → (Contains (insert_key key_cmp ks k) x → Contains ks x ⊎ (x ≡ k)) → Contains (y ∷ ks) x ⊎ (x ≡ k)
    at Less c go = elim (lower.split k x (y ∷ ks) c) [ inl same ↦ inr (sym same) | inr later ↦ inl later ]
    at Equal c go = inl c
    at Greater c go = elim (lower.split y x (insert_key key_cmp ks k) c) [ inl same ↦ inl (subst (Contains (y ∷ ks)) same (lower.here y ks)) | inr later ↦ (elim (go later) [ inl i ↦ inl (lower.there y x ks i) | inr is ↦ inr is ]) ]

to_inserted : (ks : List Key) (k x : Key) → Contains ks x ⊎ (x ≡ k) → Contains (insert_key key_cmp ks k) x
to_inserted [] k x (inl c) = absurd (lower.not_in x c)
to_inserted [] k x (inr is) = subst (Contains (k ∷ [])) (sym is) (lower.here k [])
to_inserted (y ∷ ks) k x c = at (key_cmp k y) refl c (to_inserted ks k x)
  where
    at : (r : Ordering) → key_cmp k y ≡ r → Contains (y ∷ ks) x ⊎ (x ≡ k) → (Contains ks x ⊎ (x ≡ k) → Contains (insert_key key_cmp ks k) x) → Contains (match_ordering r (k ∷ y ∷ ks) (y ∷ ks) (y ∷ insert_key key_cmp ks k)) x
    at Less e (inl i) go = lower.there k x (y ∷ ks) i
    at Less e (inr is) go = subst (Contains (k ∷ y ∷ ks)) (sym is) (lower.here k (y ∷ ks))
    at Equal e (inl i) go = i
    at Equal e (inr is) go = subst (Contains (y ∷ ks)) (sym (keys_exact k y e) ∙ sym is) (lower.here y ks)
    at Greater e (inl i) go = elim (lower.split y x ks i) [ inl same ↦ subst (Contains (y ∷ insert_key key_cmp ks k)) same (lower.here y (insert_key key_cmp ks k)) | inr later ↦ lower.there y x (insert_key key_cmp ks k) (go (inl later)) ]
    at Greater e (inr is) go = lower.there y x (insert_key key_cmp ks k) (go (inr is))

-- a stored point row is that of its key
pub same_stored : (s : Stored) → s.row.table ≡ Points → stored_of (s.base, s.row.bytes) ≡ s
same_stored s points i = record { row = record { table = sym points i; bytes = s.row.bytes }; base = s.base }

key_in : (ks : List Key) (s : Stored) → Contains (map stored_of ks) s → Contains ks (s.base, s.row.bytes)
key_in ks s c = let w = lower.map_in stored_of ks s c in subst (Contains ks) (λ i. ((w.2 i).base, (w.2 i).row.bytes)) w.1

stored_in : (ks : List Key) (s : Stored) → s.row.table ≡ Points → Contains ks (s.base, s.row.bytes) → Contains (map stored_of ks) s
stored_in ks s points c = subst (Contains (map stored_of ks)) (same_stored s points) (lower.in_map stored_of ks (s.base, s.row.bytes) c)

-- what an insert into the set makes of the queue
pub was_added : (old new : BTreeSet Key) (s : Stored) (added : Bool) → s.row.table ≡ Points → added ≡ not (contains key_cmp old (s.base, s.row.bytes)) → new.keys ≡ insert_key key_cmp old.keys (s.base, s.row.bytes)
    → OnFalse added (IsUnchanged old new) → AddMade (map stored_of old.keys) s added (map stored_of new.keys)
was_added old new s added points is keys unchanged = at added (contains key_cmp old (s.base, s.row.bytes)) refl is unchanged
  where
    k : Key
    k = (s.base, s.row.bytes)

    there : IsTrue (contains key_cmp old k) ↔ Contains old.keys k
    there = btree_set_contains_iff keys_total keys_exact old k

    each : (x : Stored) → Contains (map stored_of new.keys) x ↔ (Contains (map stored_of old.keys) x ⊎ (x ≡ s))
    each x = (
      λ c.
          let w = lower.map_in stored_of new.keys x c in
          elim (in_inserted old.keys k w.0 (subst (λ (l : List Key). Contains l w.0) keys w.1)) [
            | inl i ↦ inl (subst (Contains (map stored_of old.keys)) w.2 (lower.in_map stored_of old.keys w.0 i))
            | inr same ↦ inr (sym w.2 ∙ ap stored_of same ∙ same_stored s points)
          ],
      λ c. elim c [
        | inl i ↦ (let w = lower.map_in stored_of old.keys x i in subst (Contains (map stored_of new.keys)) w.2 (lower.in_map stored_of new.keys w.0 (subst (λ (l : List Key). Contains l w.0) (sym keys) (to_inserted old.keys k w.0 (inl w.1)))))
        | inr same ↦ subst (Contains (map stored_of new.keys)) (same_stored s points ∙ sym same) (lower.in_map stored_of new.keys k (subst (λ (l : List Key). Contains l k) (sym keys) (to_inserted old.keys k k (inr refl))))
      ],
    )

    at : (added had : Bool) → contains key_cmp old k ≡ had → added ≡ not had → OnFalse added (IsUnchanged old new) → AddMade (map stored_of old.keys) s added (map stored_of new.keys)
    at true true h e u = cc
    at true false h e u = record { absent = λ c. let t : contains key_cmp old k ≡ true = there.1 (key_in old.keys s c) in cc; each = each }
    at false true h e u = (stored_in old.keys s points (there.0 h), ap (map stored_of) u)
    at false false h e u = cc

-- ---- keys that are known to be there

-- a row whose key is known is queued
pub found_there : (ks known : List Key) (s : Stored) → s.row.table ≡ Points → AreAmong ks known → Contains known (s.base, s.row.bytes) → Contains (map stored_of ks) s
found_there ks known s points among found = stored_in ks s points (among (s.base, s.row.bytes) found)

pub still_known : (old new : BTreeSet Key) (known : List Key) → IsUnchanged old new → AreAmong old.keys known → AreAmong new.keys known
still_known old new known same among k c = subst (λ (l : List Key). Contains l k) (sym same) (among k c)

-- after an insert, whether or not its key is known now
pub more_known : (old new : BTreeSet Key) (known after : List Key) (k copy : Key) → copy ≡ k → new.keys ≡ insert_key key_cmp old.keys k → AreAmongOr known copy after → AreAmong old.keys known → AreAmong new.keys after
more_known old new known after k copy is keys kept among x c = subst (λ (l : List Key). Contains l x) (sym keys) (to_inserted old.keys k x (at (kept x c)))
  where
    at : Contains known x ⊎ (x ≡ copy) → Contains old.keys x ⊎ (x ≡ k)
    at (inl had) = inl (among x had)
    at (inr same) = inr (same ∙ is)

-- where no key is known
pub none_known : (ks known : List Key) → known ≡ [] → AreAmong ks known
none_known ks known none k c = absurd (lower.not_in k (subst (λ (l : List Key). Contains l k) none c))

-- one key more at the end of a list that had at most the old ones
pub one_more : (old seen mid new : List Key) (key : Key) → AreAmong old seen → mid ≡ seen → new ≡ mid ++ key ∷ [] → AreAmongOr old key new
one_more old seen mid new key among view is k c = at (Contains-append_cases mid (key ∷ []) k (subst (λ (l : List Key). Contains l k) is c))
  where
    one : (key ≡ k) ⊎ Contains [] k → k ≡ key
    one (inl same) = sym same
    one (inr none) = absurd (lower.not_in k none)

    at : Contains mid k ⊎ Contains (key ∷ []) k → Contains old k ⊎ (k ≡ key)
    at (inl had) = inl (among k (subst (λ (l : List Key). Contains l k) view had))
    at (inr here) = inr (one (lower.split key k [] here))

-- the key that stands at a place
pub key_at : (list : List Key) (at : ℕ) (key : Key) (base : ℕ) (bytes : List ℕ) → at < length list → key ≡ slice_index_or list at key → key.0 ≡ base → key.1 ≡ bytes → Contains list (base, bytes)
key_at list at key base bytes lt is b e = subst (Contains list) (λ i. (b i, e i)) (at, lt, sym is)

-- ---- the first of the queue

base_rises : (r : Ordering) (a b : ℕ) (t : Ordering) → r ≡ nat_cmp a b → ordering_then r t ≡ Less → a ≤ b
base_rises Less a b t e l = let lt = ranked a b Less e in omega (arith, lt)
base_rises Equal a b t e l = let same = ranked a b Equal e in omega (arith, same)
base_rises Greater a b t e l = cc

first_base : (rows : List Stored) (first : Stored) (rest : List Stored) (s : Stored) → AreQueued (first ∷ rest) → Contains (first ∷ rest) s → first.base ≤ s.base
first_base rows first rest s up c = elim (lower.split first s rest c) [
  | inl same ↦ (let e = ap (λ (x : Stored). x.base) same in omega (arith, e))
  | inr later ↦ base_rises (nat_cmp first.base s.base) first.base s.base _ refl (lower.pairs_in (λ (a b : Stored). stored_cmp a b ≡ Less) first s rest up.rising later)
]

parts_of : (ks : List Key) (k : Key) → slice_get ks 0 ≡ Some k → (rest : List Key) × (ks ≡ k ∷ rest)
parts_of [] k e = cc
parts_of (x ∷ ks) k e = (ks, (let same : x ≡ k = cc in ap (λ (y : Key). y ∷ ks) same))

-- where the first isn't below, none is
pub none_below : (ks : List Key) (k : Key) (rows : List Stored) (before : ℕ) → AreQueued (map stored_of ks) → map stored_of ks ≡ rows → slice_get ks 0 ≡ Some k → before ≤ k.0 → NoneBelow before rows
none_below ks k rows before up is first le =
    let p = parts_of ks k first in
    let whole : rows ≡ stored_of k ∷ map stored_of p.0 = sym is ∙ ap (map stored_of) p.1 in
    lower.all_of (λ (s : Stored). before ≤ s.base) rows (λ s c.
    let low = first_base rows (stored_of k) (map stored_of p.0) s (subst AreQueued (ap (map stored_of) p.1) up) (subst (λ (l : List Stored). Contains l s) whole c) in
    omega (arith, low, le))

pub none_at_all : (rows : List Stored) (before : ℕ) → rows ≡ [] → NoneBelow before rows
none_at_all rows before none = lower.all_of (λ (s : Stored). before ≤ s.base) rows (λ s c. absurd (lower.not_in s (subst (λ (l : List Stored). Contains l s) none c)))

pub first_below : (ks : List Key) (k : Key) (rows : List Stored) (before : ℕ) (bytes : List ℕ) → map stored_of ks ≡ rows → slice_get ks 0 ≡ Some k → k.0 < before → bytes ≡ k.1 → IsNextBelow before rows (record { table = Points; bytes = bytes })
first_below ks k rows before bytes is first lt same =
    let p = parts_of ks k first in
    record { first = stored_of k; rest = map stored_of p.0; rows_are = sym is ∙ ap (map stored_of) p.1; row_is = λ i. record { table = Points; bytes = same i }; below = lt }

-- want of memory leaves the first where it is
pub first_stays : {T : Type 0} (r : Result T AllocError) (ks : List Key) (k : Key) (rows : List Stored) (before : ℕ) → map stored_of ks ≡ rows → slice_get ks 0 ≡ Some k → k.0 < before → OnErr r ((row : Row) × IsNextBelow before rows row)
first_stays (Ok x) ks k rows before is first lt = tt
first_stays (Err e) ks k rows before is first lt = (record { table = Points; bytes = k.1 }, first_below ks k rows before k.1 is first lt refl)
