-- Tags of pairs, one pair after another.
use Rattle.std.proofs.Common.{◌≡◌, ℕ, ◌+◌, ◌-◌, ◌<◌, ◌≤◌, true, false, T, List, [], ◌∷◌, ◌++◌, length, get_or, take, drop, insert, Option, Some, None, Ok, Err, Less, Equal, Greater, All, IfSome, IsSomeAnd, refl, sym, ap, subst, ◌∙◌, inl, inr, append_assoc, arith}
use Rattle.std.specs.List.{AllByRecursion, list_any}
use Rattle.std.specs.Ordering.{is_gt, ordering_reverse, eq_by_cmp}
use Rattle.std.specs.Cmp.{tied_itself}
use Rattle.std.specs.Cmp.Lexicographic.{nat_list_cmp_total, nat_list_eq_equiv, texts_ties, bytes_decides}
use Rattle.std.specs.BTreeMap.{insert_entry, is_at}
use Rattle.std.specs.Map.{lookup}
use Rattle.std.specs.FinMap.{from_entries, entries_sorted, len-entries, len-empty}
use Rattle.std.specs.FinMap.Entries.{find, put, by_order, is_sorted, find_tied, find-put}
use Rattle.std.proofs.lemmas.Bool.{cases_Bool, or_from, or_left, or_right, and_from, and_left, and_right, not_from_true, not_from_false, le-ltb, lt-ltb}
use Rattle.std.proofs.lemmas.List.{get_or_default, nil_from_length, append-nil, take-append-drop, take_all, take_more, drop_all, drop_more, length-take-le}
use Rattle.std.proofs.lemmas.List.Edits.{insert_end}
use Rattle.std.proofs.lemmas.List.Elements.{recursion_from_All}
use Rattle.tsd_base.specs.declared.tags.TagsFault.{TagsFault}
use Rattle.tsd_base.specs.declared.tags.TagsFault.TheVariants.{NoTags, TwoValues, TooManyTags, OutOfMemory}
use Rattle.tsd_base.specs.TagList.{Pair, is_same, IsPair, IsTags, RiseByKey, StandsAt, WouldStandAt}
use Rattle.list_lemmas.specs.BytesOrder.{bytes_cmp}
use Rattle.tsd_base.specs.TagOrder.{bytes_exact}
use Rattle.tsd_base.specs.Tags.{contradicts, contradicted_key, distinct_pairs, counted, tags_of, Adds, Refuses, FailsTags}
use Rattle.list_lemmas.proofs.BoolTests.{is_equal}
use Rattle.list_lemmas.proofs.EntryLemmas.{insert_entry-put, lookup-find, Each-append, AreBelow, put-between, find-between, find-behind, before-below, all_before, above_more, find-entries, entries_push, length-entries, sorted-rising, sorted_from_rising, put_again}

-- ---- the place of a key

pub would_stand : (pairs : List Pair) (key : List ℕ) (at : ℕ) (e : Pair) → RiseByKey pairs → 0 < at → at ≤ length pairs → Less ≡ bytes_cmp (get_or pairs (at - 1) e).0 key
    → All (λ p. bytes_cmp key p.0 ≡ Less) (drop at pairs) → WouldStandAt pairs key at
would_stand pairs key at e rising some within is behind =
    record { within = within; before = all_before bytes_cmp nat_list_cmp_total key pairs at e rising some within (sym is); behind = behind }

pub stands : (pairs : List Pair) (key : List ℕ) (at : ℕ) (e : Pair) → 0 < at → at ≤ length pairs → Equal ≡ bytes_cmp (get_or pairs (at - 1) e).0 key → StandsAt pairs key (at - 1)
stands pairs key at e some within is =
    record { within = omega arith; same = λ d. rw (get_or_default pairs (at - 1) d e (omega arith)) (bytes_exact _ _ (sym is)) }

pub stands_before : (pairs : List Pair) (key : List ℕ) (at : ℕ) (e : Pair) → 0 < at → at ≤ length pairs → Greater ≡ bytes_cmp (get_or pairs (at - 1) e).0 key
    → All (λ p. bytes_cmp key p.0 ≡ Less) (drop at pairs) → All (λ p. bytes_cmp key p.0 ≡ Less) (drop (at - 1) pairs)
stands_before pairs key at e some within is behind =
    above_more bytes_cmp key pairs at e some within (nat_list_cmp_total.antisymm key (get_or pairs (at - 1) e).0 ∙ ap ordering_reverse (sym is)) behind

-- ---- one pair after another

-- each pair is found under its key
abbrev AreFound : List Pair → List Pair → Type 0
AreFound sorted pairs = AllByRecursion (λ p. find bytes_cmp p.0 sorted ≡ Some p.1) pairs

-- the pairs of all that are done are in order, and none of them contradicts another
pub record IsSorting (all done rest sorted : List Pair) : Type 0 where
  pub whole : done ++ rest ≡ all
  pub key : contradicted_key done rest ≡ contradicted_key [] all
  pub distinct : sorted ≡ distinct_pairs done
  pub found : AreFound sorted done
  pub names : AllByRecursion IsPair sorted

same_bytes : (x y : List ℕ) → is_same x y ≡ true → x ≡ y
same_bytes x y = (bytes_decides x y).0

-- a pair contradicts none of those that are found, where what is found under its key is its value
unopposed : (p : Pair) (done sorted : List Pair) → AreFound sorted done → ((value : List ℕ) → find bytes_cmp p.0 sorted ≡ Some value → value ≡ p.1) → list_any (contradicts p) done ≡ false
unopposed p [] sorted found agrees = refl
unopposed p (q ∷ done) sorted found agrees =
    or_from _ _
    (elim (cases_Bool (is_same p.0 q.0)) [
      | inl b ↦
          let value : q.1 ≡ p.1 = agrees q.1 (ap (λ k. find bytes_cmp k sorted) (same_bytes p.0 q.0 b) ∙ found.0) in
          and_right _ _ (not_from_true _ ((bytes_decides p.1 q.1).1 (sym value)))
      | inr b ↦ and_left _ _ b
    ])
    (unopposed p done sorted found.1 agrees)

-- a pair contradicts one of those among which another value is found under its key
opposed : (p : Pair) (done : List Pair) (value : List ℕ) → find bytes_cmp p.0 done ≡ Some value → is_same value p.1 ≡ false → list_any (contradicts p) done ≡ true
opposed p [] value found other = absurd cc
opposed p (q ∷ done) value found other = elim (cases_Bool (eq_by_cmp bytes_cmp p.0 q.0)) [
  | inl b ↦
      let is : q.1 ≡ value = cc (rw b at found) in
      or_left _ _ (and_from _ _ (texts_ties p.0 q.0 ∙ b) (not_from_false _ (nat_list_eq_equiv.symm p.1 q.1 ∙ rw is other)))
  | inr b ↦ or_right _ _ (opposed p done value (rw b at found) other)
]

found_in : (done sorted : List Pair) (k : List ℕ) → sorted ≡ distinct_pairs done → find bytes_cmp k sorted ≡ find bytes_cmp k done
found_in done sorted k is = rw is (find-entries bytes_cmp nat_list_cmp_total done k)

value_of : {A : Type 0} (o : Option A) (x y : A) → o ≡ Some x → IfSome o (λ z. z ≡ y) → x ≡ y
value_of None x y is agrees = absurd cc
value_of (Some z) x y is agrees = cc

-- a pair that agrees hides none
AreFound-put : (p : Pair) (done sorted : List Pair) → IfSome (find bytes_cmp p.0 sorted) (λ value. value ≡ p.1) → AreFound sorted done → AreFound (put bytes_cmp p.0 p.1 sorted) done
AreFound-put p [] sorted agrees found = tt
AreFound-put p (q ∷ done) sorted agrees found = (
  find-put bytes_cmp nat_list_cmp_total q.0 p.0 p.1 sorted ∙ elim (cases_Bool (eq_by_cmp bytes_cmp q.0 p.0)) [
    | inl b ↦
        let tied : find bytes_cmp p.0 sorted ≡ find bytes_cmp q.0 sorted = find_tied bytes_cmp nat_list_cmp_total q.0 p.0 (is_equal _ b) sorted in
        rw b (ap (λ (w : List ℕ). Some w) (sym (value_of (find bytes_cmp p.0 sorted) q.1 p.1 (tied ∙ found.0) agrees)))
    | inr b ↦ rw b found.0
  ],
  AreFound-put p done sorted agrees found.1,
)

find-put_itself : (p : Pair) (sorted : List Pair) → find bytes_cmp p.0 (put bytes_cmp p.0 p.1 sorted) ≡ Some p.1
find-put_itself p sorted = find-put bytes_cmp nat_list_cmp_total p.0 p.0 p.1 sorted ∙ rw (tied_itself nat_list_cmp_total p.0) refl

pub names_put : (p : Pair) (sorted : List Pair) → IsPair p → AllByRecursion IsPair sorted → AllByRecursion IsPair (put bytes_cmp p.0 p.1 sorted)
names_put p [] named names = (named, tt)
names_put p (q ∷ sorted) named names =
    elim (bytes_cmp p.0 q.0) as (λ r. AllByRecursion IsPair (by_order r (p ∷ q ∷ sorted) ((q.0, p.1) ∷ sorted) (q ∷ put bytes_cmp p.0 p.1 sorted))) [
      | Less ↦ (named, names)
      | Equal ↦ ((names.0.0, named.1), names.1)
      | Greater ↦ (names.0, names_put p sorted named names.1)
    ]

pub sorting_starts : (all : List Pair) → IsSorting all [] all []
sorting_starts all =
    let none : distinct_pairs [] ≡ [] = nil_from_length _ (sym (len-entries _) ∙ len-empty bytes_cmp (List ℕ)) in
    record { whole = refl; key = refl; distinct = sym none; found = tt; names = tt }

-- the next pair agrees with those before
pub sorting_goes_on : (all done rest sorted new : List Pair) (p : Pair) → IsSorting all done (p ∷ rest) sorted → Adds p sorted new → IsSorting all (done ++ p ∷ []) rest new
sorting_goes_on all done rest sorted new p s a =
    let u = unopposed p done sorted s.found (λ value is. value_of (find bytes_cmp p.0 sorted) value p.1 is a.agrees) in
    let before : IfSome (find bytes_cmp p.0 done) (λ value. value ≡ p.1) = rw (found_in done sorted p.0 s.distinct) at a.agrees in
    record {
      whole = append_assoc done (p ∷ []) rest ∙ s.whole;
      key = rw u at s.key;
      distinct = a.added ∙ ap (put bytes_cmp p.0 p.1) s.distinct ∙ sym (entries_push bytes_cmp nat_list_cmp_total bytes_exact done p.0 p.1 before);
      found = rw a.added (Each-append (λ q. find bytes_cmp q.0 (put bytes_cmp p.0 p.1 sorted) ≡ Some q.1) done (p ∷ []) (AreFound-put p done sorted a.agrees s.found) (find-put_itself p sorted, tt));
      names = rw a.added (names_put p sorted a.named s.names);
    }

told_two : (all : List Pair) (key : List ℕ) → contradicted_key [] all ≡ Some key → tags_of all ≡ Err (TwoValues key)
unfolding tags_of
told_two [] key is = absurd cc
told_two (p ∷ all) key is = rw is refl

-- the next pair has another value
pub sorting_stops : (all done rest sorted : List Pair) (p : Pair) (value : List ℕ) → IsSorting all done (p ∷ rest) sorted → find bytes_cmp p.0 sorted ≡ Some value → is_same value p.1 ≡ false
    → tags_of all ≡ Err (TwoValues p.0)
sorting_stops all done rest sorted p value s found other =
    let o = opposed p done value (sym (found_in done sorted p.0 s.distinct) ∙ found) other in
    told_two all p.0 (sym s.key ∙ rw o refl)

-- ---- all pairs

pub sorting_done : (all done rest sorted : List Pair) (n : ℕ) → IsSorting all done rest sorted → n ≡ length rest → n ≡ 0 → IsSorting all done [] sorted
sorting_done all done rest sorted n s len none = subst (λ ps. IsSorting all done ps sorted) (nil_from_length rest (sym len ∙ none)) s

told_all : (all : List Pair) → contradicted_key [] all ≡ None → 1 ≤ length all → tags_of all ≡ counted (distinct_pairs all)
unfolding tags_of
told_all [] none some = absurd (omega arith)
told_all (p ∷ all) none some = rw none refl

not_empty : (done sorted : List Pair) → AreFound sorted done → 1 ≤ length done → 1 ≤ length sorted
not_empty [] sorted found some = absurd (omega arith)
not_empty (p ∷ done) [] found some = absurd cc
not_empty (p ∷ done) (q ∷ sorted) found some = omega arith

told_counted : (all done sorted : List Pair) → IsSorting all done [] sorted → 1 ≤ length all → tags_of all ≡ counted sorted
told_counted all done sorted s some =
    let is : done ≡ all = sym (append-nil done) ∙ s.whole in
    told_all all (sym s.key) some ∙ ap counted (sym (s.distinct ∙ ap distinct_pairs is))

pub sorting_ends : (all done sorted : List Pair) → IsSorting all done [] sorted → 1 ≤ length all → length sorted ≤ 8 → tags_of all ≡ Ok sorted
sorting_ends all done sorted s some few = told_counted all done sorted s some ∙ rw (le-ltb 8 (length sorted) few) refl

pub sorting_overflows : (all done sorted : List Pair) → IsSorting all done [] sorted → 1 ≤ length all → 8 < length sorted → tags_of all ≡ Err (TooManyTags (length sorted))
sorting_overflows all done sorted s some many = told_counted all done sorted s some ∙ rw (lt-ltb 8 (length sorted) many) refl

pub sorting_sorted : (all done rest sorted : List Pair) → IsSorting all done rest sorted → T (is_sorted bytes_cmp sorted)
sorting_sorted all done rest sorted s = subst (λ es. T (is_sorted bytes_cmp es)) (sym s.distinct) (entries_sorted (from_entries {R = bytes_cmp} done))

pub sorting_rises : (all done rest sorted : List Pair) → IsSorting all done rest sorted → RiseByKey sorted
sorting_rises all done rest sorted s = sorted-rising bytes_cmp sorted (sorting_sorted all done rest sorted s)

pub sorting_shortens : (all done sorted : List Pair) → IsSorting all done [] sorted → length sorted ≤ length all
sorting_shortens all done sorted s =
    let is : done ≡ all = sym (append-nil done) ∙ s.whole in
    rw (s.distinct, ← is) (length-entries bytes_cmp nat_list_cmp_total done)

pub IsTags-sorting : (all done sorted : List Pair) → IsSorting all done [] sorted → 1 ≤ length all → length sorted ≤ 8 → IsTags sorted
IsTags-sorting all done sorted s some few =
    let is : done ≡ all = sym (append-nil done) ∙ s.whole in
    record { some = not_empty done sorted s.found (rw is some); most = few; rising = sorting_rises all done [] sorted s; names = s.names }

-- ---- what stands at a place, and what would

split_here : (pairs : List Pair) (at : ℕ) (d : Pair) → at < length pairs → pairs ≡ take at pairs ++ get_or pairs at d ∷ drop (at + 1) pairs
split_here pairs at d within = sym (take-append-drop at pairs) ∙ ap (λ (ps : List Pair). take at pairs ++ ps) (drop_more pairs at d within)

tied_gt : (k : List ℕ) → is_gt (bytes_cmp k k) ≡ false
tied_gt k = rw (tied_itself nat_list_cmp_total k) refl

pub found_at : (pairs : List Pair) (key : List ℕ) (at : ℕ) (d : Pair) → T (is_sorted bytes_cmp pairs) → StandsAt pairs key at → find bytes_cmp key pairs ≡ Some (get_or pairs at d).1
found_at pairs key at d sorted s =
    let e : Pair = get_or pairs at d in
    let is : e.0 ≡ key = s.same d in
    let split = split_here pairs at d s.within in
    let below = before-below bytes_cmp nat_list_cmp_total e.0 (take at pairs) e (drop (at + 1) pairs) (subst (λ es. T (is_sorted bytes_cmp es)) split sorted) (tied_gt e.0) in
    ap (λ k. find bytes_cmp k pairs) (sym is) ∙ ap (find bytes_cmp e.0) split ∙ find-behind bytes_cmp e.0 (take at pairs) e (drop (at + 1) pairs) below (tied_itself nat_list_cmp_total e.0)

turned : (key : List ℕ) (pairs : List Pair) → AllByRecursion (λ p. bytes_cmp p.0 key ≡ Less) pairs → AreBelow bytes_cmp key pairs
turned key [] below = tt
turned key (p ∷ pairs) below = (nat_list_cmp_total.antisymm key p.0 ∙ ap ordering_reverse below.0, turned key pairs below.1)

pub not_found : (pairs : List Pair) (key : List ℕ) (at : ℕ) → WouldStandAt pairs key at → find bytes_cmp key pairs ≡ None
not_found pairs key at w =
    ap (find bytes_cmp key) (sym (take-append-drop at pairs)) ∙ find-between bytes_cmp key (take at pairs) (drop at pairs) (turned key _ (recursion_from_All _ _ w.before)) (recursion_from_All _ _ w.behind)

pub put_there : (pairs : List Pair) (p : Pair) (at : ℕ) → WouldStandAt pairs p.0 at → insert pairs at p ≡ put bytes_cmp p.0 p.1 pairs
put_there pairs p at w =
    sym (ap (put bytes_cmp p.0 p.1) (sym (take-append-drop at pairs)) ∙ put-between bytes_cmp p.0 p.1 (take at pairs) (drop at pairs) (turned p.0 _ (recursion_from_All _ _ w.before)) (recursion_from_All _ _ w.behind))

-- ---- one pair more

pub find_at : (pairs : List Pair) (key : List ℕ) (at : ℕ) (d : Pair) → RiseByKey pairs → StandsAt pairs key at → Some (get_or pairs at d).1 ≡ find bytes_cmp key pairs
find_at pairs key at d rising stands = sym (found_at pairs key at d (sorted_from_rising bytes_cmp pairs rising) stands)

pub find_by_lookup : (es : List Pair) (key : List ℕ) (found : Option (List ℕ)) → found ≡ lookup (is_at (bytes_cmp key)) es → found ≡ find bytes_cmp key es
find_by_lookup es key found is = is ∙ lookup-find bytes_cmp key es

pub adds_nothing : (pairs : List Pair) (p : Pair) (value : List ℕ) → RiseByKey pairs → Some value ≡ find bytes_cmp p.0 pairs → true ≡ is_same value p.1 → IsPair p → Adds p pairs pairs
adds_nothing pairs p value rising is same named =
    let found : find bytes_cmp p.0 pairs ≡ Some p.1 = sym is ∙ ap (λ (x : List ℕ). Some x) (same_bytes value p.1 (sym same)) in
    record { agrees = rw found refl; added = sym (put_again bytes_cmp nat_list_cmp_total bytes_exact p.0 p.1 pairs (sorted_from_rising bytes_cmp pairs rising) found); named = named }

pub other_value : (pairs : List Pair) (p : Pair) (value : List ℕ) → Some value ≡ find bytes_cmp p.0 pairs → false ≡ is_same value p.1 → IsSomeAnd (find bytes_cmp p.0 pairs) (λ x. is_same x p.1 ≡ false)
other_value pairs p value is other = rw (← is) (sym other)

pub adds_new : (pairs : List Pair) (p : Pair) (at : ℕ) → WouldStandAt pairs p.0 at → IsPair p → Adds p pairs (insert pairs at p)
adds_new pairs p at gap named = record { agrees = rw (not_found pairs p.0 at gap) tt; added = put_there pairs p at gap; named = named }

pub adds_entry : (es : List Pair) (p : Pair) → None ≡ find bytes_cmp p.0 es → IsPair p → Adds p es (insert_entry bytes_cmp es p.0 p.1)
adds_entry es p none named = record { agrees = rw (← none) tt; added = insert_entry-put bytes_cmp p.0 p.1 es; named = named }

some_of : {A : Type 0} (P : A → Type 0) (o : Option A) → IsSomeAnd o P → (x : A) × (o ≡ Some x) × P x
some_of P None h = absurd h
some_of P (Some x) h = (x, refl, h)

pub sorting_fails : (all done rest sorted : List Pair) (p : Pair) (fault : TagsFault) → IsSorting all done (p ∷ rest) sorted → Refuses p sorted fault → FailsTags fault (tags_of all)
sorting_fails all done rest sorted p OutOfMemory s r = tt
sorting_fails all done rest sorted p NoTags s r = absurd r
sorting_fails all done rest sorted p (TooManyTags count) s r = absurd r
sorting_fails all done rest sorted p (TwoValues key) s r =
    let v = some_of (λ value. is_same value p.1 ≡ false) (find bytes_cmp p.0 sorted) r.1 in
    rw r.0 (sorting_stops all done rest sorted p v.0 s v.1 v.2)

pub told_none : (all : List Pair) → length all ≡ 0 → tags_of all ≡ Err NoTags
unfolding tags_of
told_none [] none = refl
told_none (p ∷ all) none = absurd (omega arith)

-- ---- pairs in order

-- the next pair stands behind those before it
pub in_order_next : (all : List Pair) (i at : ℕ) (p : Pair) → i < length all → p ≡ get_or all i p → IsPair p → WouldStandAt (take i all) p.0 at → i ≤ at → IsSorting all (take i all) (drop i all) (take i all)
    → IsSorting all (take (i + 1) all) (drop (i + 1) all) (take (i + 1) all)
in_order_next all i at p inside is named gap from s =
    let long : length (take i all) ≡ i = length-take-le i all (omega (arith, inside)) in
    let end : at ≡ length (take i all) = omega (arith, from, gap.within, long) in
    let more : take (i + 1) all ≡ take i all ++ p ∷ [] = take_more all i p inside ∙ ap (λ (x : Pair). take i all ++ x ∷ []) (sym is) in
    let rest : drop i all ≡ p ∷ drop (i + 1) all = drop_more all i p inside ∙ ap (λ (x : Pair). x ∷ drop (i + 1) all) (sym is) in
    let put : insert (take i all) at p ≡ take i all ++ p ∷ [] = ap (λ n. insert (take i all) n p) end ∙ insert_end (take i all) p in
    let went : IsSorting all (take i all ++ p ∷ []) (drop (i + 1) all) (take i all ++ p ∷ []) =
    sorting_goes_on all (take i all) (drop (i + 1) all) (take i all) (take i all ++ p ∷ []) p (subst (λ (ps : List Pair). IsSorting all (take i all) ps (take i all)) rest s)
    (subst (Adds p (take i all)) put (adds_new (take i all) p at gap named)) in
    subst (λ (ps : List Pair). IsSorting all ps (drop (i + 1) all) ps) (sym more) went

-- all of them
pub in_order_all : (all : List Pair) (i : ℕ) → length all ≤ i → IsSorting all (take i all) (drop i all) (take i all) → 1 ≤ length all → length all ≤ 8 → (tags_of all ≡ Ok all) × IsTags all
in_order_all all i end s some few =
    let whole : IsSorting all all [] all = subst (λ (ps : List Pair). IsSorting all ps [] ps) (take_all i all end) (subst (λ (ps : List Pair). IsSorting all (take i all) ps (take i all)) (drop_all i all end) s) in
    (sorting_ends all all all whole some few, IsTags-sorting all all all whole some few)
