-- Tags of pairs in the order of a text, and of these pairs in the order of their keys.
use Rattle.std.proofs.Common.{◌≡◌, ℕ, ◌<◌, Bool, true, false, not, ◌&&◌, ◌||◌, T, List, [], ◌∷◌, ◌++◌, length, Option, None, Some, Result, Ok, Err, IfSome, Less, Equal, Greater, cond, refl, sym, ap, subst, ◌∙◌, append_assoc, append-nil, arith}
use Rattle.std.specs.Prelude.{AllPairs, Contains, nat_lt, if◌then◌else◌}
use Rattle.std.specs.List.{list_any}
use Rattle.std.specs.Ordering.{eq_by_cmp}
use Rattle.std.specs.Cmp.{tied_itself}
use Rattle.std.specs.Cmp.Lexicographic.{nat_list_cmp_total, texts_ties, bytes_decides}
use Rattle.std.specs.FinMap.{entries, from_entries, from_sorted, entries_sorted, entries-from_sorted, get-from_sorted, get-from_entries, same_map, find, put, is_sorted}
use Rattle.std.specs.FinMap.Entries.{by_order}
use Rattle.std.proofs.lemmas.Bool.{or_from}
use Rattle.list_lemmas.specs.BytesOrder.{bytes_cmp}
use Rattle.list_lemmas.proofs.EntryLemmas.{entries_push, sorted-rising}
use Rattle.list_lemmas.proofs.ListMembers.{here, there}
use Rattle.list_lemmas.proofs.ListParts.{pairs_before}
use Rattle.tsd_base.specs.TagList.{Pair, is_same}
use Rattle.tsd_base.specs.TagOrder.{bytes_exact}
use Rattle.tsd_base.specs.Tags.{contradicts, contradicted_key, distinct_pairs, counted, uncontradicted, tags_of}
use Rattle.tsd_base.proofs.CallerLemmas.{sorting_starts}
use Rattle.put_bodies.proofs.TagMembers.{gather}

-- ---- a pair that contradicts none before it

agrees : (p : Pair) (done : List Pair) → list_any (contradicts p) done ≡ false → IfSome (find bytes_cmp p.0 done) (λ w. w ≡ p.1)
agrees p [] none = tt
agrees p (q ∷ done) none = at (eq_by_cmp bytes_cmp p.0 q.0) (is_same p.1 q.1) (texts_ties p.0 q.0) refl (agrees p done)
  where
    at : (tied same : Bool) → is_same p.0 q.0 ≡ tied → is_same p.1 q.1 ≡ same → (list_any (contradicts p) done ≡ false → IfSome (find bytes_cmp p.0 done) (λ w. w ≡ p.1))
        → IfSome (cond tied (Some q.1) (find bytes_cmp p.0 done)) (λ w. w ≡ p.1)
    at true true k v go = sym ((bytes_decides p.1 q.1).0 v)
    at true false k v go = let two : (true && not false || list_any (contradicts p) done) ≡ false = rw (k, v) at none in absurd (cc)
    at false same k v go = go (rw k at none)

-- one pair after the other makes each pair once, rising by key
gathered : (done rest sorted : List Pair) → sorted ≡ distinct_pairs done → contradicted_key done rest ≡ None → gather sorted rest ≡ distinct_pairs (done ++ rest)
gathered done [] sorted is none = is ∙ ap distinct_pairs (sym (append-nil done))
gathered done (p ∷ rest) sorted is none = at (list_any (contradicts p) done) refl none (gathered (done ++ p ∷ []) rest (put bytes_cmp p.0 p.1 sorted))
  where
    at : (b : Bool) → list_any (contradicts p) done ≡ b → (if b then Some p.0 else contradicted_key (done ++ p ∷ []) rest) ≡ None
        → (put bytes_cmp p.0 p.1 sorted ≡ distinct_pairs (done ++ p ∷ []) → contradicted_key (done ++ p ∷ []) rest ≡ None → gather (put bytes_cmp p.0 p.1 sorted) rest ≡ distinct_pairs ((done ++ p ∷ []) ++ rest))
        → gather (put bytes_cmp p.0 p.1 sorted) rest ≡ distinct_pairs (done ++ p ∷ rest)
    at true e none go = absurd (cc)
    at false e none go =
        let step : put bytes_cmp p.0 p.1 sorted ≡ distinct_pairs (done ++ p ∷ []) = ap (put bytes_cmp p.0 p.1) is ∙ sym (entries_push bytes_cmp nat_list_cmp_total bytes_exact done p.0 p.1 (agrees p done e)) in
        go step none ∙ ap distinct_pairs (append_assoc done (p ∷ []) rest)

-- ---- pairs that rise

differ : (p q : Pair) → bytes_cmp q.0 p.0 ≡ Less → contradicts p q ≡ false
differ p q less = at (is_same p.0 q.0) refl
  where
    tied : p.0 ≡ q.0 → Less ≡ Equal
    tied same = sym less ∙ ap (λ k. bytes_cmp q.0 k) same ∙ tied_itself nat_list_cmp_total q.0

    at : (b : Bool) → is_same p.0 q.0 ≡ b → (b && not (is_same p.1 q.1)) ≡ false
    at true e = let both = tied ((bytes_decides p.0 q.0).0 e) in absurd (cc)
    at false e = refl

none_opposed : (p : Pair) (earlier : List Pair) → ((q : Pair) → Contains earlier q → bytes_cmp q.0 p.0 ≡ Less) → list_any (contradicts p) earlier ≡ false
none_opposed p [] less = refl
none_opposed p (q ∷ earlier) less = or_from _ _ (differ p q (less q (here q earlier))) (none_opposed p earlier (λ s c. less s (there q s earlier c)))

uncontradicted_rising : (earlier pairs : List Pair) → AllPairs (λ p q. bytes_cmp p.0 q.0 ≡ Less) (earlier ++ pairs) → contradicted_key earlier pairs ≡ None
uncontradicted_rising earlier [] rising = refl
uncontradicted_rising earlier (p ∷ pairs) rising =
    ap (λ b. if b then Some p.0 else contradicted_key (earlier ++ p ∷ []) pairs) (none_opposed p earlier (λ q c. pairs_before (λ p q. bytes_cmp p.0 q.0 ≡ Less) earlier p pairs rising q c))
    ∙ uncontradicted_rising (earlier ++ p ∷ []) pairs (subst (AllPairs (λ p q. bytes_cmp p.0 q.0 ≡ Less)) (sym (append_assoc earlier (p ∷ []) pairs)) rising)

distinct_sorted : (pairs : List Pair) → T (is_sorted bytes_cmp pairs) → distinct_pairs pairs ≡ pairs
distinct_sorted pairs sorted =
    ap entries (same_map nat_list_cmp_total bytes_exact (from_entries pairs) (from_sorted pairs)
    (λ q. get-from_entries nat_list_cmp_total pairs q ∙ sym (get-from_sorted bytes_cmp pairs q sorted)))
    ∙ entries-from_sorted bytes_cmp pairs sorted

-- ---- the tags of both

record IsMade (pairs tags : List Pair) : Type 0 where
  pub none : contradicted_key [] pairs ≡ None
  pub is : tags ≡ distinct_pairs pairs
  pub few : nat_lt 8 (length tags) ≡ false

two_answers : {A E : Type 0} (e : E) (a : A) → ◌≡◌ {A = Result A E} (Err e) (Ok a) → ⊥
two_answers e a is = cc

same_Ok : {A E : Type 0} (a b : A) → ◌≡◌ {A = Result A E} (Ok a) (Ok b) → a ≡ b
same_Ok a b is = cc

counted_made : (b : Bool) (all tags : List Pair) → nat_lt 8 (length all) ≡ b → counted all ≡ Ok tags → (tags ≡ all) × (nat_lt 8 (length tags) ≡ false)
counted_made true all tags e is = absurd (two_answers _ tags (rw e at is))
counted_made false all tags e is =
    let same : all ≡ tags = same_Ok all tags (rw e at is) in
    (sym same, subst (λ (x : List Pair). nat_lt 8 (length x) ≡ false) same e)

made_by : (o : Option (List ℕ)) (pairs tags : List Pair) → contradicted_key [] pairs ≡ o → uncontradicted o pairs ≡ Ok tags → IsMade pairs tags
made_by (Some key) pairs tags e is = absurd (two_answers _ tags is)
made_by None pairs tags e is = let c = counted_made (nat_lt 8 (length (distinct_pairs pairs))) (distinct_pairs pairs) tags refl is in record { none = e; is = c.0; few = c.1 }

made : (pairs tags : List Pair) → tags_of pairs ≡ Ok tags → IsMade pairs tags
unfolding tags_of
made [] tags is = absurd (two_answers _ tags is)
made (p ∷ pairs) tags is = made_by (contradicted_key [] (p ∷ pairs)) (p ∷ pairs) tags refl is

told : (pairs tags : List Pair) → IsMade pairs tags → 0 < length pairs → tags_of pairs ≡ Ok tags
unfolding tags_of
told [] tags m some = absurd (omega (arith, some))
told (p ∷ pairs) tags m some =
    ap (λ o. uncontradicted o (p ∷ pairs)) m.none ∙ ap counted (sym m.is) ∙ rw m.few refl

some_put : (k v : List ℕ) (sorted : List Pair) → 0 < length (put bytes_cmp k v sorted)
some_put k v [] = omega arith
some_put k v (q ∷ sorted) = elim (bytes_cmp k q.0) as (λ r. 0 < length (by_order r ((k, v) ∷ q ∷ sorted) ((q.0, v) ∷ sorted) (q ∷ put bytes_cmp k v sorted))) [ Less ↦ omega arith | Equal ↦ omega arith | Greater ↦ omega arith ]

some_gathered : (pairs sorted : List Pair) → 0 < length sorted → 0 < length (gather sorted pairs)
some_gathered [] sorted some = some
some_gathered (p ∷ pairs) sorted some = some_gathered pairs (put bytes_cmp p.0 p.1 sorted) (some_put p.0 p.1 sorted)

some_tags : (pairs tags : List Pair) → tags_of pairs ≡ Ok tags → 0 < length (gather [] pairs)
unfolding tags_of
some_tags [] tags is = absurd (two_answers _ tags is)
some_tags (p ∷ pairs) tags is = some_gathered pairs (put bytes_cmp p.0 p.1 []) (some_put p.0 p.1 [])

-- pairs that are tags are the same tags in the order of their keys
pub tags_alike : (pairs tags : List Pair) → tags_of pairs ≡ Ok tags → tags_of (gather [] pairs) ≡ Ok tags
tags_alike pairs tags is =
    let m = made pairs tags is in
    let same : gather [] pairs ≡ tags = gathered [] pairs [] (sorting_starts []).distinct m.none ∙ sym m.is in
    let sorted : T (is_sorted bytes_cmp tags) = subst (λ es. T (is_sorted bytes_cmp es)) (sym m.is) (entries_sorted (from_entries {R = bytes_cmp} pairs)) in
    let some : 0 < length tags = subst (λ (x : List Pair). 0 < length x) same (some_tags pairs tags is) in
    ap tags_of same ∙ told tags tags (record { none = uncontradicted_rising [] tags (sorted-rising bytes_cmp tags sorted); is = sym (distinct_sorted tags sorted); few = m.few }) some
