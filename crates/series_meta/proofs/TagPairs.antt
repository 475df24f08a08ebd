-- The ids of tags, one tag after the other.
use Rattle.std.proofs.Common.{◌≡◌, ◌≢◌, ◌⊎◌, inl, inr, ℕ, zero, suc, ◌+◌, ◌≤◌, ◌<◌, List, [], ◌∷◌, ◌++◌, length, get_or, take, drop, insert, refl, sym, ap, subst, ◌∙◌, drop-cons, length-append, arith, Less, Equal}
use Rattle.std.specs.Prelude.{All, Contains, Some}
use Rattle.std.specs.List.Sorted.{IsPermutation}
use Rattle.std.proofs.lemmas.List.{take-append-drop, take_more}
use Rattle.std.proofs.lemmas.List.Elements.{All-cons, Contains-append_cases, Contains-append_left, Contains-append_right}
use Rattle.std.proofs.lemmas.List.Kept.{AllPairs-cons}
use Rattle.std.proofs.lemmas.List.Sorted.{IsPermutation-insert, IsPermutation-sym, All-permutation, Contains-permutation, length_permutation}
use Rattle.std.proofs.lemmas.Grind.{flat_map-append}
use Rattle.std.proofs.lemmas.Cmp.{nat_list_cmp_total, tied_itself}
use Rattle.tsd_base.specs.declared.kinds.Kind.TheVariants.{TagKey, TagValue}
use Rattle.tsd_base.specs.TagList.{Pair, RiseByKey}
use Rattle.list_lemmas.specs.BytesOrder.{bytes_cmp}
use Rattle.cell_model.specs.Seen.{Seen, IsPossible}
use Rattle.cell_model.specs.Deeds.{Extends}
use Rattle.cell_model.specs.Layout.{tag_names}
use Rattle.uid_table.specs.ShownKeys.{IdsShown, PairsShown, Rising}
use Rattle.cell_laws.proofs.CallerLemmas.{one_name, itself}
use Rattle.list_lemmas.proofs.ListMembers.{here as at_front, there, split, not_in}
use Rattle.uid_table.proofs.CallerLemmas.{shown_kept}

-- a pair between those below it and those above it
pub rises_with : (xs : List (ℕ × ℕ)) (i : ℕ) (y : ℕ × ℕ) → i ≤ length xs → Rising xs → ((k : ℕ) (d : ℕ × ℕ) → k < i → (get_or xs k d).0 < y.0) → ((k : ℕ) (d : ℕ × ℕ) → i ≤ k → k < length xs → y.0 < (get_or xs k d).0)
    → Rising (insert xs i y)
rises_with [] zero y le r before after = AllPairs-cons (λ p q. p.0 < q.0) y [] (λ k d lt. absurd (omega (arith, lt))) r
rises_with [] (suc i) y le r before after = absurd (omega (arith, le))
rises_with (x ∷ xs) zero y le r before after = AllPairs-cons (λ p q. p.0 < q.0) y (x ∷ xs) (λ k d lt. after k d (omega arith) lt) r
rises_with (x ∷ xs) (suc i) y le r before after =
    let above : All (λ q. x.0 < q.0) xs = λ k d lt. r 0 (suc k) d (omega arith) (omega (arith, lt)) in
    let all = All-permutation (λ q. x.0 < q.0) (y ∷ xs) (insert xs i y) (IsPermutation-insert xs i y) (All-cons (λ q. x.0 < q.0) y xs (before 0 y (omega arith)) above) in
    let rest : Rising xs = λ a b d lt more. r (suc a) (suc b) d (omega (arith, lt)) (omega (arith, more)) in
    AllPairs-cons (λ p q. p.0 < q.0) x (insert xs i y) all (rises_with xs i y (omega (arith, le)) rest (λ k d lt. before (suc k) d (omega (arith, lt))) (λ k d at lt. after (suc k) d (omega (arith, at)) (omega (arith, lt))))

-- the list about one of its elements
pub about : {X : Type 0} (xs : List X) (i : ℕ) (x : X) → i < length xs → x ≡ get_or xs i x → xs ≡ take i xs ++ x ∷ drop (suc i) xs
about xs i x lt is = sym (take-append-drop i xs) ∙ ap (λ ys. take i xs ++ ys) (drop-cons xs i x lt ∙ ap (λ y. y ∷ drop (suc i) xs) (sym is))

pub taken : {X : Type 0} (xs : List X) (i : ℕ) (x : X) → i < length xs → x ≡ get_or xs i x → take (i + 1) xs ≡ take i xs ++ x ∷ []
taken xs i x lt is = take_more xs i x lt ∙ ap (λ y. take i xs ++ y ∷ []) (sym is)

pub names_joined : (xs ys : List Pair) → tag_names (xs ++ ys) ≡ tag_names xs ++ tag_names ys
names_joined xs ys = flat_map-append (λ t. (TagKey, t.0) ∷ (TagValue, t.1) ∷ []) xs ys

-- no pair yet
pub pairs_none : (s : Seen) → PairsShown s [] []
pairs_none s = record { rising = λ i j d lt more. absurd (omega (arith, more)); count = refl; each_tag = λ t c. absurd (not_in t c); each_pair = λ i c. absurd (not_in i c) }

pub ids_kept : (s t : Seen) (tag : Pair) (ids : ℕ × ℕ) → Extends s t → IdsShown s tag ids → IdsShown t tag ids
ids_kept s t tag ids e shown = (shown_kept s t TagKey tag.0 ids.0 e shown.0, shown_kept s t TagValue tag.1 ids.1 e shown.1)

-- one pair more
pub pairs_more : (s t : Seen) (tags : List Pair) (pairs new : List (ℕ × ℕ)) (tag : Pair) (ids : ℕ × ℕ) → Extends s t → PairsShown s tags pairs → IdsShown t tag ids → Rising new → IsPermutation (ids ∷ pairs) new
    → PairsShown t (tags ++ tag ∷ []) new
pairs_more s t tags pairs new tag ids e old shown rising same = record {
  rising = rising;
  count = let n = length_permutation (ids ∷ pairs) new same in let m = old.count in let k = length-append tags (tag ∷ []) in omega (arith, n, m, k);
  each_tag = λ u c. of_tag u (Contains-append_cases tags (tag ∷ []) u c);
  each_pair = λ i c. of_pair i (split ids i pairs (Contains-permutation new (ids ∷ pairs) i (IsPermutation-sym (ids ∷ pairs) new same) c));
}
  where
    one : List Pair
    one = tag ∷ []

    none : List Pair
    none = []

    here : (u : Pair) → (tag ≡ u) ⊎ Contains none u → (i : ℕ × ℕ) × Contains new i × IdsShown t u i
    here u (inl is) = (ids, Contains-permutation (ids ∷ pairs) new ids same (at_front ids pairs), subst (λ v. IdsShown t v ids) is shown)
    here u (inr later) = absurd (not_in u later)

    of_tag : (u : Pair) → Contains tags u ⊎ Contains one u → (i : ℕ × ℕ) × Contains new i × IdsShown t u i
    of_tag u (inl before) = let w = old.each_tag u before in (w.0, Contains-permutation (ids ∷ pairs) new w.0 same (there ids w.0 pairs w.1), ids_kept s t u w.0 e w.2)
    of_tag u (inr last) = here u (split tag u [] last)

    of_pair : (i : ℕ × ℕ) → (ids ≡ i) ⊎ Contains pairs i → (u : Pair) × Contains (tags ++ one) u × IdsShown t u i
    of_pair i (inl is) = (tag, Contains-append_right tags one tag (at_front tag []), subst (λ v. IdsShown t tag v) is shown)
    of_pair i (inr before) = let w = old.each_pair i before in (w.0, Contains-append_left tags one w.0 w.1, ids_kept s t w.0 i e w.2)

-- the keys before a tag are below its key
pub below : (front back : List Pair) (tag u : Pair) → RiseByKey (front ++ tag ∷ back) → Contains front u → bytes_cmp u.0 tag.0 ≡ Less
below [] back tag u r c = absurd (not_in u c)
below (x ∷ front) back tag u r c = at (split x u front c) (below front back tag u tail)
  where
    tail : RiseByKey (front ++ tag ∷ back)
    tail = λ i j d lt more. r (suc i) (suc j) d (omega (arith, lt)) (omega (arith, more))

    first : bytes_cmp x.0 tag.0 ≡ Less
    first =
        let c = Contains-append_right front (tag ∷ back) tag (at_front tag back) in
        subst (λ (v : Pair). bytes_cmp x.0 v.0 ≡ Less) c.2 (r 0 (suc c.0) tag (omega arith) (let lt = c.1 in omega (arith, lt)))

    at : (x ≡ u) ⊎ Contains front u → (Contains front u → bytes_cmp u.0 tag.0 ≡ Less) → bytes_cmp u.0 tag.0 ≡ Less
    at (inl same) go = subst (λ (v : Pair). bytes_cmp v.0 tag.0 ≡ Less) same first
    at (inr later) go = go later

not_below_itself : (k : List ℕ) → bytes_cmp k k ≡ Less → ⊥
not_below_itself k lt = let eq : bytes_cmp k k ≡ Equal = tied_itself nat_list_cmp_total k in cc

-- two keys have two ids
pub new_id : (s t : Seen) (front back : List Pair) (pairs : List (ℕ × ℕ)) (tag : Pair) (ids : ℕ × ℕ) → Extends s t → IsPossible t → PairsShown s front pairs → IdsShown t tag ids
    → RiseByKey (front ++ tag ∷ back) → All (λ p. p.0 ≢ ids.0) pairs
new_id s t front back pairs tag ids e possible old shown rise k d lt same =
    let p = get_or pairs k d in
    let among : Contains pairs p = (k, lt, default pairs k d p lt) in
    let w = old.each_pair p among in
    let h = possible.history in
    let u_id = w.2.0.stands t e h possible.lawful possible.fits in
    let t_id = shown.0.stands t (itself t) h possible.lawful possible.fits in
    let one = one_name h TagKey w.0.0 tag.0 ids.0 possible.lawful w.2.0.is_name shown.0.is_name (u_id ∙ ap (λ n. Some n) same) t_id in
    not_below_itself tag.0 (subst (λ x. bytes_cmp x tag.0 ≡ Less) one (below front back tag w.0 rise w.1))
  where
    default : (xs : List (ℕ × ℕ)) (i : ℕ) (a b : ℕ × ℕ) → i < length xs → get_or xs i b ≡ get_or xs i a
    default [] i a b lt = absurd (omega (arith, lt))
    default (x ∷ xs) zero a b lt = refl
    default (x ∷ xs) (suc i) a b lt = default xs i a b (omega (arith, lt))

-- the pairs from one above the id on are above it
pub above_place : (xs : List (ℕ × ℕ)) (id at : ℕ) → Rising xs → id < (get_or xs at (0, 0)).0 → (k : ℕ) (d : ℕ × ℕ) → at ≤ k → k < length xs → id < (get_or xs k d).0
above_place [] id at r lt k d le more = absurd (omega (arith, more))
above_place (x ∷ xs) id zero r lt zero d le more = lt
above_place (x ∷ xs) id zero r lt (suc k) d le more = let up : x.0 < (get_or xs k d).0 = r 0 (suc k) d (omega arith) more in omega (arith, lt, up)
above_place (x ∷ xs) id (suc at) r lt zero d le more = absurd (omega (arith, le))
above_place (x ∷ xs) id (suc at) r lt (suc k) d le more = above_place xs id at (λ i j e a b. r (suc i) (suc j) e (omega (arith, a)) (omega (arith, b))) lt k d (omega (arith, le)) (omega (arith, more))
