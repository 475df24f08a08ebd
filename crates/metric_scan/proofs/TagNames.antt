-- Tags by the names of ids.
use Rattle.std.proofs.Common.{◌≡◌, ◌⊎◌, inl, inr, ℕ, ◌+◌, ◌<◌, ◌≤◌, Bool, true, false, cond, List, [], ◌∷◌, ◌++◌, length, take, get_or, refl, sym, ap, subst, ◌∙◌, arith, append_assoc}
use Rattle.std.specs.Prelude.{AllPairs, Contains, Option, None, Some, Result, Ok, Err, nat_lt, if◌then◌else◌, ◌&&◌, not}
use Rattle.std.specs.List.{AllZip, list_any}
use Rattle.std.proofs.lemmas.Bool.{or_from, le-ltb}
use Rattle.std.specs.declared.cmp.Ordering.{Ordering}
use Rattle.std.specs.declared.cmp.Ordering.TheVariants.{Less, Equal, Greater}
use Rattle.std.specs.Ordering.{is_eq, eq_by_cmp}
use Rattle.std.specs.Cmp.{tied_itself}
use Rattle.std.specs.Cmp.Lexicographic.{nat_list_cmp_total, bytes_decides}
use Rattle.std.specs.FinMap.{entries_sorted, from_entries, get-entries, get-from_entries}
use Rattle.std.specs.FinMap as fin
use Rattle.tsd_base.specs.declared.kinds.Kind.TheVariants.{TagKey, TagValue}
use Rattle.tsd_base.specs.declared.tags.TagsFault.{TagsFault}
use Rattle.tsd_base.specs.declared.tags.TagsFault.TheVariants.{NoTags, TwoValues, TooManyTags, OutOfMemory}
use Rattle.tsd_base.specs.TagList.{Pair, is_same, IsTags, RiseByKey}
use Rattle.list_lemmas.specs.BytesOrder.{bytes_cmp}
use Rattle.tsd_base.specs.TagOrder.{bytes_exact}
use Rattle.tsd_base.specs.Tags.{tags_of, contradicts, uncontradicted, contradicted_key, distinct_pairs, FailsTags}
use Rattle.cell_model.specs.Readings.{IsNamed, Named}
use Rattle.metric_scan.specs.RowNames.{IdOf, Names, HasName, ids_of}
use Rattle.metric_scan.specs.RowTags.{OneToOne, ArePairs}
use Rattle.metric_scan.proofs.Lower as lower
use Rattle.metric_scan.proofs.NameReads.{element, taken}

-- ---- ids of pairs

pub key_in : (pairs : List (ℕ × ℕ)) (p : ℕ × ℕ) → Contains pairs p → Contains (ids_of pairs) (TagKey, p.0)
key_in [] p c = absurd (lower.not_in p c)
key_in (q ∷ pairs) p c = at (lower.split q p pairs c) (key_in pairs p)
  where
    at : (q ≡ p) ⊎ Contains pairs p → (Contains pairs p → Contains (ids_of pairs) (TagKey, p.0)) → Contains (ids_of (q ∷ pairs)) (TagKey, p.0)
    at (inl same) go = subst (λ (x : ℕ × ℕ). Contains (ids_of (q ∷ pairs)) (TagKey, x.0)) same (lower.here {X = IdOf} (TagKey, q.0) ((TagValue, q.1) ∷ ids_of pairs))
    at (inr later) go = lower.there {X = IdOf} (TagKey, q.0) (TagKey, p.0) ((TagValue, q.1) ∷ ids_of pairs) (lower.there {X = IdOf} (TagValue, q.1) (TagKey, p.0) (ids_of pairs) (go later))

pub value_in : (pairs : List (ℕ × ℕ)) (p : ℕ × ℕ) → Contains pairs p → Contains (ids_of pairs) (TagValue, p.1)
value_in [] p c = absurd (lower.not_in p c)
value_in (q ∷ pairs) p c = at (lower.split q p pairs c) (value_in pairs p)
  where
    at : (q ≡ p) ⊎ Contains pairs p → (Contains pairs p → Contains (ids_of pairs) (TagValue, p.1)) → Contains (ids_of (q ∷ pairs)) (TagValue, p.1)
    at (inl same) go = subst (λ (x : ℕ × ℕ). Contains (ids_of (q ∷ pairs)) (TagValue, x.1)) same (lower.there {X = IdOf} (TagKey, q.0) (TagValue, q.1) ((TagValue, q.1) ∷ ids_of pairs) (lower.here {X = IdOf} (TagValue, q.1) (ids_of pairs)))
    at (inr later) go = lower.there {X = IdOf} (TagKey, q.0) (TagValue, p.1) ((TagValue, q.1) ∷ ids_of pairs) (lower.there {X = IdOf} (TagValue, q.1) (TagValue, p.1) (ids_of pairs) (go later))

pub has_key : (names : Names) (pairs : List (ℕ × ℕ)) (i : ℕ) → i < length pairs → ArePairs names pairs → HasName names (TagKey, (get_or pairs i (0, 0)).0)
has_key names pairs i lt are = are.named _ (key_in pairs (get_or pairs i (0, 0)) (i, lt, sym (element pairs i lt)))

pub has_value : (names : Names) (pairs : List (ℕ × ℕ)) (i : ℕ) → i < length pairs → ArePairs names pairs → HasName names (TagValue, (get_or pairs i (0, 0)).1)
has_value names pairs i lt are = are.named _ (value_in pairs (get_or pairs i (0, 0)) (i, lt, sym (element pairs i lt)))

-- ---- lists place by place

pub zip_push : {A B : Type 0} (R : A → B → Type 0) (xs : List A) (ys : List B) (x : A) (y : B) → AllZip R xs ys → R x y → AllZip R (xs ++ x ∷ []) (ys ++ y ∷ [])
zip_push R [] [] x y z r = (r, tt)
zip_push R [] (b ∷ ys) x y z r = absurd z
zip_push R (a ∷ xs) [] x y z r = absurd z
zip_push R (a ∷ xs) (b ∷ ys) x y z r = (z.0, zip_push R xs ys x y z.1 r)

pub zip_left : {A B : Type 0} (R : A → B → Type 0) (xs : List A) (ys : List B) (x : A) → AllZip R xs ys → Contains xs x → (y : B) × Contains ys y × R x y
zip_left R [] ys x z c = absurd (lower.not_in x c)
zip_left R (a ∷ xs) [] x z c = absurd z
zip_left {A} {B} R (a ∷ xs) (b ∷ ys) x z c = at (lower.split a x xs c) (zip_left R xs ys x z.1)
  where
    at : (a ≡ x) ⊎ Contains xs x → (Contains xs x → (y : B) × Contains ys y × R x y) → (y : B) × Contains (b ∷ ys) y × R x y
    at (inl same) go = (b, lower.here b ys, subst (λ (w : A). R w b) same z.0)
    at (inr later) go = let w = go later in (w.0, lower.there b w.0 ys w.1, w.2)

pub zip_right : {A B : Type 0} (R : A → B → Type 0) (xs : List A) (ys : List B) (y : B) → AllZip R xs ys → Contains ys y → (x : A) × Contains xs x × R x y
zip_right R xs [] y z c = absurd (lower.not_in y c)
zip_right R [] (b ∷ ys) y z c = absurd z
zip_right {A} {B} R (a ∷ xs) (b ∷ ys) y z c = at (lower.split b y ys c) (zip_right R xs ys y z.1)
  where
    at : (b ≡ y) ⊎ Contains ys y → (Contains ys y → (x : A) × Contains xs x × R x y) → (x : A) × Contains (a ∷ xs) x × R x y
    at (inl same) go = (a, lower.here a xs, subst (R a) same z.0)
    at (inr later) go = let w = go later in (w.0, lower.there a w.0 xs w.1, w.2)

pub names_more : (names : Names) (pairs : List (ℕ × ℕ)) (i : ℕ) (list more : List Pair) (t : Pair) → i < length pairs → AllZip (IsNamed names) (take i pairs) list → IsNamed names (get_or pairs i (0, 0)) t → more ≡ list ++ t ∷ []
    → AllZip (IsNamed names) (take (i + 1) pairs) more
names_more names pairs i list more t lt z n is =
    let x = get_or pairs i (0, 0) in
    subst (λ (xs : List (ℕ × ℕ)). AllZip (IsNamed names) xs more) (sym (taken pairs i x lt (element pairs i lt)))
    (subst (AllZip (IsNamed names) (take i pairs ++ x ∷ [])) (sym is) (zip_push (IsNamed names) (take i pairs) list x t z n))

-- ---- what is found in a list of pairs

same_Some : {X : Type 0} (x y : X) → ◌≡◌ {A = Option X} (Some x) (Some y) → x ≡ y
same_Some x y e = cc

none_some : {X : Type 0} (x : X) → ◌≡◌ {A = Option X} None (Some x) → ⊥
none_some x e = cc

equal : (r : Ordering) → is_eq r ≡ true → r ≡ Equal
equal Less e = cc
equal Equal e = refl
equal Greater e = cc

find : List ℕ → List Pair → Option (List ℕ)
find = fin.find bytes_cmp

found_in : (list : List Pair) (k v : List ℕ) → fin.find bytes_cmp k list ≡ Some v → Contains list (k, v)
found_in [] k v e = absurd (none_some v e)
found_in (t ∷ list) k v e = at (eq_by_cmp bytes_cmp k t.0) refl e (found_in list k v)
  where
    at : (b : Bool) → eq_by_cmp bytes_cmp k t.0 ≡ b → cond b (Some t.1) (fin.find bytes_cmp k list) ≡ Some v → (fin.find bytes_cmp k list ≡ Some v → Contains list (k, v)) → Contains (t ∷ list) (k, v)
    at true b e go =
        let key : k ≡ t.0 = bytes_exact k t.0 (equal (bytes_cmp k t.0) b) in
        let value : t.1 ≡ v = same_Some t.1 v e in
        let same : ◌≡◌ {A = Pair} t (k, v) = λ i. ((sym key) i, value i) in
        subst (Contains (t ∷ list)) same (lower.here t list)
    at false b e go = lower.there t (k, v) list (go e)

-- each of pairs with different keys is found
different_find : (list : List Pair) → AllPairs (λ (s t : Pair). s.0 ≡ t.0 → ⊥) list → (t : Pair) → Contains list t → fin.find bytes_cmp t.0 list ≡ Some t.1
different_find [] up t c = absurd (lower.not_in t c)
different_find (s ∷ list) up t c = at (lower.split s t list c) (different_find list (lower.pairs_tail (λ (s t : Pair). s.0 ≡ t.0 → ⊥) s list up) t)
  where
    at : (s ≡ t) ⊎ Contains list t → (Contains list t → fin.find bytes_cmp t.0 list ≡ Some t.1) → fin.find bytes_cmp t.0 (s ∷ list) ≡ Some t.1
    at (inl same) go =
        ap (λ r. cond (is_eq r) (Some s.1) (fin.find bytes_cmp t.0 list)) (ap (λ (x : Pair). bytes_cmp t.0 x.0) same ∙ tied_itself nat_list_cmp_total t.0) ∙ ap (λ (x : Pair). Some x.1) same
    at (inr later) go = inner (eq_by_cmp bytes_cmp t.0 s.0) refl
      where
        inner : (b : Bool) → eq_by_cmp bytes_cmp t.0 s.0 ≡ b → cond (eq_by_cmp bytes_cmp t.0 s.0) (Some s.1) (fin.find bytes_cmp t.0 list) ≡ Some t.1
        inner true b = absurd (lower.pairs_in (λ (s t : Pair). s.0 ≡ t.0 → ⊥) s t list up later (sym (bytes_exact t.0 s.0 (equal (bytes_cmp t.0 s.0) b))))
        inner false b = ap (λ x. cond x (Some s.1) (fin.find bytes_cmp t.0 list)) b ∙ go later

not_less_itself : (x : List ℕ) → bytes_cmp x x ≡ Less → ⊥
not_less_itself x e = let t = tied_itself nat_list_cmp_total x in cc

rising_differ : (tags : List Pair) → RiseByKey tags → AllPairs (λ (s t : Pair). s.0 ≡ t.0 → ⊥) tags
rising_differ [] up = λ i j d lt within. absurd (omega (arith, within))
rising_differ (t ∷ tags) up =
    lower.pairs_cons (λ (s t : Pair). s.0 ≡ t.0 → ⊥) t tags (λ u c same. not_less_itself t.0 (subst (λ x. bytes_cmp t.0 x ≡ Less) (sym same) (lower.pairs_in (λ (p q : Pair). bytes_cmp p.0 q.0 ≡ Less) t u tags up c)))
    (rising_differ tags (lower.pairs_tail (λ (p q : Pair). bytes_cmp p.0 q.0 ≡ Less) t tags up))

-- no two pairs have one name as their key
abbrev pub OneKey : Names → List (ℕ × ℕ) → Type 0
OneKey names pairs = (p q : ℕ × ℕ) (name : List ℕ) → Contains pairs p → Contains pairs q → names TagKey p.0 ≡ Some name → names TagKey q.0 ≡ Some name → p.0 ≡ q.0

-- the names of ids that rise are different
names_differ : (names : Names) (pairs : List (ℕ × ℕ)) (list : List Pair) → OneKey names pairs → AllPairs (λ p q. p.0 < q.0) pairs → AllZip (IsNamed names) pairs list → AllPairs (λ (s t : Pair). s.0 ≡ t.0 → ⊥) list
names_differ names [] [] one up z = λ i j d lt within. absurd (omega (arith, within))
names_differ names [] (t ∷ list) one up z = absurd z
names_differ names (p ∷ pairs) [] one up z = absurd z
names_differ names (p ∷ pairs) (t ∷ list) one up z =
    lower.pairs_cons (λ (s t : Pair). s.0 ≡ t.0 → ⊥) t list (λ u c same.
    let w = zip_right (IsNamed names) pairs list u z.1 c in
    let ids : p.0 ≡ w.0.0 = one p w.0 u.0 (lower.here p pairs) (lower.there p w.0 pairs w.1) (z.0.0 ∙ ap (λ x. Some x) same) w.2.0 in
    let lt = lower.pairs_in (λ (p q : ℕ × ℕ). p.0 < q.0) p w.0 pairs up w.1 in
    omega (arith, ids, lt))
    (names_differ names pairs list (λ a b name x y. one a b name (lower.there p a pairs x) (lower.there p b pairs y)) (lower.pairs_tail (λ (p q : ℕ × ℕ). p.0 < q.0) p pairs up) z.1)

-- tags in which the same is found as among the names of the pairs
pub named_from : (names : Names) (pairs : List (ℕ × ℕ)) (list tags : List Pair) → OneKey names pairs → AllPairs (λ p q. p.0 < q.0) pairs → AllZip (IsNamed names) pairs list → RiseByKey tags → ((k : List ℕ) → fin.find bytes_cmp k tags ≡ fin.find bytes_cmp k list)
    → Named names pairs tags
named_from names pairs list tags one up z rising same = record {
  rising = rising;
  each = λ p c.
      let w = zip_left (IsNamed names) pairs list p z c in
      (w.0, found_in tags w.0.0 w.0.1 (same w.0.0 ∙ different_find list differ w.0 w.1), w.2);
  back = λ s c.
      let f = found_in list s.0 s.1 (sym (same s.0) ∙ different_find tags (rising_differ tags rising) s c) in
      zip_right (IsNamed names) pairs list s z f;
}
  where
    differ : AllPairs (λ (s t : Pair). s.0 ≡ t.0 → ⊥) list
    differ = names_differ names pairs list one up z

-- names of the pairs make tags
names_listed : (names : Names) (pairs : List (ℕ × ℕ)) → ((p : ℕ × ℕ) → Contains pairs p → (t : Pair) × IsNamed names p t) → (list : List Pair) × AllZip (IsNamed names) pairs list
names_listed names [] named = ([], tt)
names_listed names (p ∷ pairs) named =
    let t = named p (lower.here p pairs) in
    let rest = names_listed names pairs (λ q c. named q (lower.there p q pairs c)) in
    (t.0 ∷ rest.0, (t.1, rest.1))

found_distinct : (list : List Pair) (k : List ℕ) → fin.find bytes_cmp k (distinct_pairs list) ≡ fin.find bytes_cmp k list
found_distinct list k = sym (get-entries (from_entries {R = bytes_cmp} list) k) ∙ get-from_entries nat_list_cmp_total list k

pub tags_exist : (names : Names) (pairs : List (ℕ × ℕ)) → OneKey names pairs → AllPairs (λ p q. p.0 < q.0) pairs → ((p : ℕ × ℕ) → Contains pairs p → (t : Pair) × IsNamed names p t) → (tags : List Pair) × Named names pairs tags
tags_exist names pairs one up named =
    let l = names_listed names pairs named in (
      distinct_pairs l.0,
      named_from names pairs l.0 (distinct_pairs l.0) one up l.1 (lower.sorted-rising bytes_cmp (distinct_pairs l.0) (entries_sorted (from_entries {R = bytes_cmp} l.0))) (found_distinct l.0),
    )

-- ---- the tags that pairs make

two_answers : (fault : TagsFault) (tags : List Pair) → ◌≡◌ {A = Result (List Pair) TagsFault} (Err fault) (Ok tags) → ⊥
two_answers fault tags e = cc

same_Ok : (a b : List Pair) → ◌≡◌ {A = Result (List Pair) TagsFault} (Ok a) (Ok b) → a ≡ b
same_Ok a b e = cc

counted_is : (b : Bool) (all tags : List Pair) (fault : TagsFault) → (if b then Err fault else Ok all) ≡ Ok tags → all ≡ tags
counted_is true all tags fault e = absurd (two_answers fault tags e)
counted_is false all tags fault e = same_Ok all tags e

uncontradicted_is : (o : Option (List ℕ)) (list tags : List Pair) → uncontradicted o list ≡ Ok tags → distinct_pairs list ≡ tags
uncontradicted_is (Some key) list tags e = absurd (two_answers _ tags e)
uncontradicted_is None list tags e = counted_is (nat_lt 8 (length (distinct_pairs list))) (distinct_pairs list) tags _ e

made_distinct : (list tags : List Pair) → tags_of list ≡ Ok tags → distinct_pairs list ≡ tags
unfolding tags_of
made_distinct [] tags e = absurd (two_answers _ tags e)
made_distinct (t ∷ list) tags e = uncontradicted_is (contradicted_key [] (t ∷ list)) (t ∷ list) tags e

pub tags_named : (names : Names) (pairs : List (ℕ × ℕ)) (list tags : List Pair) → OneToOne names → ArePairs names pairs → AllZip (IsNamed names) pairs list → tags_of list ≡ Ok tags → IsTags tags → Named names pairs tags
tags_named names pairs list tags one are z made t =
    named_from names pairs list tags (λ p q name c d x y. one TagKey p.0 q.0 name x y) are.rising z t.rising (λ k. ap (fin.find bytes_cmp k) (sym (made_distinct list tags made)) ∙ found_distinct list k)

-- ---- pairs with different keys make tags

differ_same : (s t : Pair) → (s.0 ≡ t.0 → ⊥) → contradicts s t ≡ false
differ_same s t other = at (is_same s.0 t.0) refl
  where
    at : (b : Bool) → is_same s.0 t.0 ≡ b → (is_same s.0 t.0 && not (is_same s.1 t.1)) ≡ false
    at true e = absurd (other ((bytes_decides s.0 t.0).0 e))
    at false e = ap (λ b. b && not (is_same s.1 t.1)) e

none_opposed : (t : Pair) (earlier : List Pair) → ((s : Pair) → Contains earlier s → t.0 ≡ s.0 → ⊥) → list_any (contradicts t) earlier ≡ false
none_opposed t [] h = refl
none_opposed t (s ∷ earlier) h = or_from _ _ (differ_same t s (h s (lower.here s earlier))) (none_opposed t earlier (λ u c. h u (lower.there s u earlier c)))

none_contradicted : (earlier list : List Pair) → AllPairs (λ (s t : Pair). s.0 ≡ t.0 → ⊥) (earlier ++ list) → contradicted_key earlier list ≡ None
none_contradicted earlier [] up = refl
none_contradicted earlier (t ∷ list) up =
    let opposed = none_opposed t earlier (λ s c same. lower.pairs_before (λ (s t : Pair). s.0 ≡ t.0 → ⊥) earlier t list up s c (sym same)) in
    ap (λ b. if b then Some t.0 else contradicted_key (earlier ++ t ∷ []) list) opposed
    ∙ none_contradicted (earlier ++ t ∷ []) list (subst (AllPairs (λ (s t : Pair). s.0 ≡ t.0 → ⊥)) (sym (append_assoc earlier (t ∷ []) list)) up)

zip_length : {A B : Type 0} (R : A → B → Type 0) (xs : List A) (ys : List B) → AllZip R xs ys → length xs ≡ length ys
zip_length R [] [] z = refl
zip_length R [] (y ∷ ys) z = absurd z
zip_length R (x ∷ xs) [] z = absurd z
zip_length R (x ∷ xs) (y ∷ ys) z = let rest = zip_length R xs ys z.1 in omega (arith, rest)

told : (list : List Pair) → 1 ≤ length list → contradicted_key [] list ≡ None → length (distinct_pairs list) ≤ 8 → tags_of list ≡ Ok (distinct_pairs list)
unfolding tags_of
told [] some none few = absurd (omega (arith, some))
told (t ∷ list) some none few =
    ap (λ o. uncontradicted o (t ∷ list)) none ∙ ap (λ b. if b then Err (TooManyTags (length (distinct_pairs (t ∷ list)))) else Ok (distinct_pairs (t ∷ list))) (le-ltb 8 (length (distinct_pairs (t ∷ list))) few)

pub tags_made : (names : Names) (pairs : List (ℕ × ℕ)) (list : List Pair) → OneToOne names → ArePairs names pairs → AllZip (IsNamed names) pairs list → tags_of list ≡ Ok (distinct_pairs list)
tags_made names pairs list one are z =
    let differ = names_differ names pairs list (λ p q name c d x y. one TagKey p.0 q.0 name x y) are.rising z in
    let same = zip_length (IsNamed names) pairs list z in
    let few = lower.length-entries bytes_cmp nat_list_cmp_total list in
    let some = are.some in
    let most = are.most in
    told list (omega (arith, same, some)) (none_contradicted [] list differ) (omega (arith, same, few, most))

-- so only memory can be wanting for them
pub no_tags_fault : (names : Names) (pairs : List (ℕ × ℕ)) (list : List Pair) (fault : TagsFault) → OneToOne names → ArePairs names pairs → AllZip (IsNamed names) pairs list → FailsTags fault (tags_of list) → (fault ≡ OutOfMemory → ⊥) → ⊥
no_tags_fault names pairs list OutOfMemory one are z fails other = other refl
no_tags_fault names pairs list NoTags one are z fails other = two_answers NoTags (distinct_pairs list) (sym fails ∙ tags_made names pairs list one are z)
no_tags_fault names pairs list (TwoValues key) one are z fails other = two_answers (TwoValues key) (distinct_pairs list) (sym fails ∙ tags_made names pairs list one are z)
no_tags_fault names pairs list (TooManyTags count) one are z fails other = two_answers (TooManyTags count) (distinct_pairs list) (sym fails ∙ tags_made names pairs list one are z)

-- ---- the same tags have the same ids

below_asym : (a b : ℕ × ℕ) → a.0 < b.0 → b.0 < a.0 → ⊥
below_asym a b x y = omega (arith, x, y)

pairs_within : (names : Names) (a b : List (ℕ × ℕ)) (s t : List Pair) → OneToOne names → Named names a s → Named names b t → s ≡ t → (p : ℕ × ℕ) → Contains a p → Contains b p
pairs_within names a b s t one x y same p c =
    let u = x.each p c in
    let q = y.back u.0 (subst (λ (l : List Pair). Contains l u.0) same u.1) in
    let k = one TagKey q.0.0 p.0 u.0.0 q.2.0 u.2.0 in
    let v = one TagValue q.0.1 p.1 u.0.1 q.2.1 u.2.1 in
    let is : ◌≡◌ {A = ℕ × ℕ} q.0 p = λ i. (k i, v i) in
    subst (Contains b) is q.1

pub same_ids : (names : Names) (a b : List (ℕ × ℕ)) (s t : List Pair) → OneToOne names → AllPairs (λ p q. p.0 < q.0) a → AllPairs (λ p q. p.0 < q.0) b → Named names a s → Named names b t → s ≡ t → a ≡ b
same_ids names a b s t one ra rb x y same = lower.same_rising (λ (p q : ℕ × ℕ). p.0 < q.0) below_asym a b ra rb (pairs_within names a b s t one x y same) (pairs_within names b a t s one y x (sym same))
