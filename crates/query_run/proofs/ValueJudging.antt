-- Judging values by their names, one after the other.
use Rattle.std.proofs.Common.{◌≡◌, ◌⊎◌, inl, inr, ℕ, zero, suc, ◌+◌, ◌<◌, ◌≤◌, Bool, true, false, cond, List, [], ◌∷◌, ◌++◌, length, drop, set, get_or, refl, sym, ap, subst, ◌∙◌, arith}
use Rattle.std.specs.Prelude.{◌&&◌, ◌||◌, not, nat_eq, All, IfOk, Option, None, Some, Result, Ok, Err, map}
use Rattle.std.specs.List.{list_any}
use Rattle.std.specs.Map.{lookup}
use Rattle.std.specs.BTreeMap.{is_at}
use Rattle.std.specs.Ordering.{nat_cmp, is_eq}
use Rattle.std.specs.Cmp.{ranked}
use Rattle.std.specs.declared.cmp.Ordering.{Ordering}
use Rattle.std.specs.declared.cmp.Ordering.TheVariants.{Less, Equal, Greater}
use Rattle.std.proofs.lemmas.Bool.Decides.{nat_tests}
use Rattle.std.proofs.lemmas.List.{drop_more, drop_all, map-append, append-nil, get_or-map, length-map}
use Rattle.std.proofs.lemmas.List.Elements.{All-push, All-set, All-nil, All-get_or}
use Rattle.tsd_base.specs.declared.kinds.Kind.TheVariants.{TagValue}
use Rattle.query_text.specs.declared.queries.Filter.{Filter}
use Rattle.query_text.specs.FilterTexts.{is_of_text}
use Rattle.group_by.specs.TagFilters.{passes_test}
use Rattle.tag_match.specs.Patterns.{finds}
use Rattle.metric_scan.specs.declared.id_filter.IdFilter.{IdFilter}
use Rattle.query_run.specs.declared.value_judges.ValueJudge.{ValueJudge}
use Rattle.metric_scan.specs.RowNames.{Names}
use Rattle.query_run.specs.ValueJudges.{passes_named, pair_passes, suits_one, suits, AreAmong, IsJudgedBy, HasJudged, HaveJudged, AreFresh, filters_of}

same_Some : {X : Type 0} (x y : X) → ◌≡◌ {A = Option X} (Some x) (Some y) → x ≡ y
same_Some x y e = cc

none_some : {X : Type 0} (x : X) → ◌≡◌ {A = Option X} None (Some x) → ⊥
none_some x e = cc

-- ---- one value

abbrev at_id : List (ℕ × Bool) → ℕ → Option Bool
at_id entries id = lookup (is_at (nat_cmp id)) entries

equal_is : (id q : ℕ) (r : Ordering) → r ≡ nat_cmp id q → is_eq r ≡ true → id ≡ q
equal_is id q Less e t = cc
equal_is id q Equal e t = ranked id q Equal e
equal_is id q Greater e t = cc

-- an entry is the new one, or was there
entry_cases : (id q : ℕ) (b d : Bool) (before after : Option Bool) → after ≡ cond (is_at (nat_cmp id) q) (Some b) before → after ≡ Some d → ((id ≡ q) × (b ≡ d)) ⊎ (before ≡ Some d)
entry_cases id q b d before after now is = at (is_at (nat_cmp id) q) refl
  where
    at : (t : Bool) → is_at (nat_cmp id) q ≡ t → ((id ≡ q) × (b ≡ d)) ⊎ (before ≡ Some d)
    at true e = inl (equal_is id q (nat_cmp id q) refl e, same_Some b d (sym (ap (λ t. cond t (Some b) before) e) ∙ sym now ∙ is))
    at false e = inr (sym (ap (λ t. cond t (Some b) before) e) ∙ sym now ∙ is)

pub judged_before : (names : Names) (j : ValueJudge) (id : ℕ) (b : Bool) → at_id j.judged.entries id ≡ Some b → HasJudged names j j b (λ all. passes_named j.judge.test (all TagValue id))
judged_before names j id b is = record { same = refl; by = λ all among judged. (judged, judged id b is) }

pub judged_now : (names : Names) (old new : ValueJudge) (id : ℕ) (name : List ℕ) (b : Bool) → names TagValue id ≡ Some name → b ≡ passes_test finds old.judge.test name → new.judge ≡ old.judge
    → ((q : ℕ) → at_id new.judged.entries q ≡ cond (is_at (nat_cmp id) q) (Some b) (at_id old.judged.entries q)) → HasJudged names old new b (λ all. passes_named old.judge.test (all TagValue id))
judged_now names old new id name b named is same now = record { same = same; by = λ all among judged. (each all among judged, so all among) }
  where
    so : (all : Names) → AreAmong names all → b ≡ passes_named old.judge.test (all TagValue id)
    so all among = is ∙ ap (passes_named old.judge.test) (sym (among TagValue id name named))

    each : (all : Names) → AreAmong names all → IsJudgedBy all old → IsJudgedBy all new
    each all among judged q d e =
        elim (entry_cases id q b d (at_id old.judged.entries q) (at_id new.judged.entries q) (now q) e) [
          | inl w ↦ sym w.1 ∙ so all among ∙ (λ i. passes_named ((sym same) i).test (all TagValue (w.0 i)))
          | inr was ↦ judged q d was ∙ ap (λ (f : Filter). passes_named f.test (all TagValue q)) (sym same)
        ]

-- ---- one pair

-- what is wanted may be said otherwise
pub said_so : (names : Names) (old new : ValueJudge) (b : Bool) (wanted other : Names → Bool) → ((all : Names) → wanted all ≡ other all) → HasJudged names old new b wanted → HasJudged names old new b other
said_so names old new b wanted other same h = record { same = h.same; by = λ all among judged. let w = h.by all among judged in (w.0, w.1 ∙ same all) }

-- nothing was asked
pub unasked : (names : Names) (j : ValueJudge) (b : Bool) (wanted : Names → Bool) → ((all : Names) → b ≡ wanted all) → HasJudged names j j b wanted
unasked names j b wanted is = record { same = refl; by = λ all among judged. (judged, is all) }

nat_not : (a b : ℕ) → (a ≡ b → ⊥) → nat_eq a b ≡ false
nat_not a b apart = at (nat_eq a b) refl
  where
    at : (t : Bool) → nat_eq a b ≡ t → nat_eq a b ≡ false
    at true e = absurd (apart (grind (arith, nat_tests, e)))
    at false e = e

nat_is : (a b : ℕ) → a ≡ b → nat_eq a b ≡ true
nat_is a b e = grind (arith, nat_tests, e)

pub other_key : (names : Names) (j : ValueJudge) (key : ℕ) (pair : ℕ × ℕ) → (key ≡ pair.0 → ⊥) → HasJudged names j j false (λ all. pair_passes all key j.judge.test pair)
other_key names j key pair apart = unasked names j false (λ all. pair_passes all key j.judge.test pair) (λ all. sym (ap (λ t. t && passes_named j.judge.test (all TagValue pair.1)) (nat_not key pair.0 apart)))

same_key : (names : Names) (old new : ValueJudge) (key : ℕ) (pair : ℕ × ℕ) (b : Bool) → key ≡ pair.0 → HasJudged names old new b (λ all. passes_named old.judge.test (all TagValue pair.1)) → HasJudged names old new b (λ all. pair_passes all key old.judge.test pair)
same_key names old new key pair b is h =
    said_so names old new b (λ all. passes_named old.judge.test (all TagValue pair.1)) (λ all. pair_passes all key old.judge.test pair) (λ all. sym (ap (λ t. t && passes_named old.judge.test (all TagValue pair.1)) (nat_is key pair.0 is))) h

-- where it fails nothing is said
pub same_key_ok : {E : Type 0} (names : Names) (old new : ValueJudge) (key : ℕ) (pair : ℕ × ℕ) (r : Result Bool E) → key ≡ pair.0 → IfOk r (λ b. HasJudged names old new b (λ all. passes_named old.judge.test (all TagValue pair.1)))
    → IfOk r (λ b. HasJudged names old new b (λ all. pair_passes all key old.judge.test pair))
same_key_ok names old new key pair (Ok b) is h = same_key names old new key pair b is h
same_key_ok names old new key pair (Err e) is h = h

-- ---- one filter

pub plain_suits : (names : Names) (j : ValueJudge) (key : ℕ) (pairs : List (ℕ × ℕ)) → is_of_text j.judge.test ≡ false → HasJudged names j j true (λ all. suits_one all key j.judge.test pairs)
plain_suits names j key pairs plain = unasked names j true (λ all. suits_one all key j.judge.test pairs) (λ all. sym (ap (λ t. not t || list_any (pair_passes all key j.judge.test) pairs) plain))

-- the first i pairs didn't pass
pub record Passed (names : Names) (old : ValueJudge) (key : ℕ) (pairs : List (ℕ × ℕ)) (i : ℕ) (now : ValueJudge) : Type 0 where
  pub same : now.judge ≡ old.judge
  pub by : (all : Names) → AreAmong names all → IsJudgedBy all old → IsJudgedBy all now × (list_any (pair_passes all key old.judge.test) pairs ≡ list_any (pair_passes all key old.judge.test) (drop i pairs))

pub passed_none : (names : Names) (j : ValueJudge) (key : ℕ) (pairs : List (ℕ × ℕ)) → Passed names j key pairs 0 j
passed_none names j key pairs = record { same = refl; by = λ all among judged. (judged, refl) }

module _ (names : Names) (old : ValueJudge) (key : ℕ) (pairs : List (ℕ × ℕ)) (i : ℕ) (now : ValueJudge) (p : Passed names old key pairs i now) where
  module _ (d : ℕ × ℕ) (inside : i < length pairs) (next : ValueJudge) (b : Bool) (h : HasJudged names now next b (λ all. pair_passes all key now.judge.test (get_or pairs i d))) where
    -- what is left, by what the next one came to
    rest : (all : Names) → AreAmong names all → IsJudgedBy all old → IsJudgedBy all next × (list_any (pair_passes all key old.judge.test) pairs ≡ (b || list_any (pair_passes all key old.judge.test) (drop (i + 1) pairs)))
    rest all among judged =
        let w = p.by all among judged in
        let n = h.by all among w.0 in
        let here : b ≡ pair_passes all key old.judge.test (get_or pairs i d) = n.1 ∙ ap (λ (f : Filter). pair_passes all key f.test (get_or pairs i d)) p.same in
        (n.0, w.1 ∙ ap (list_any (pair_passes all key old.judge.test)) (drop_more pairs i d inside) ∙ ap (λ t. t || list_any (pair_passes all key old.judge.test) (drop (i + 1) pairs)) (sym here))

    pub passed_more : b ≡ false → Passed names old key pairs (i + 1) next
    passed_more is = record {
      same = h.same ∙ p.same;
      by = λ all among judged. let w = rest all among judged in (w.0, w.1 ∙ ap (λ t. t || list_any (pair_passes all key old.judge.test) (drop (i + 1) pairs)) is);
    }

    pub passed_here : is_of_text old.judge.test ≡ true → b ≡ true → HasJudged names old next true (λ all. suits_one all key old.judge.test pairs)
    passed_here text is = record {
      same = h.same ∙ p.same;
      by = λ all among judged.
          let w = rest all among judged in
          (w.0, sym (ap (λ t. not t || list_any (pair_passes all key old.judge.test) pairs) text ∙ w.1 ∙ ap (λ t. t || list_any (pair_passes all key old.judge.test) (drop (i + 1) pairs)) is));
    }

  pub passed_all : length pairs ≤ i → is_of_text old.judge.test ≡ true → HasJudged names old now false (λ all. suits_one all key old.judge.test pairs)
  passed_all end text = record {
    same = p.same;
    by = λ all among judged.
        let w = p.by all among judged in
        (w.0, sym (ap (λ t. not t || list_any (pair_passes all key old.judge.test) pairs) text ∙ w.1 ∙ ap (list_any (pair_passes all key old.judge.test)) (drop_all i pairs end)));
  }

-- ---- all filters

-- the first i filters suit
pub record Suited (names : Names) (old : List ValueJudge) (list : List IdFilter) (pairs : List (ℕ × ℕ)) (i : ℕ) (now : List ValueJudge) : Type 0 where
  pub same : filters_of now ≡ filters_of old
  pub by : (all : Names) → AreAmong names all → All (IsJudgedBy all) old → All (IsJudgedBy all) now × (suits all (filters_of old) list pairs ≡ suits all (drop i (filters_of old)) (drop i list) pairs)

pub suited_none : (names : Names) (old : List ValueJudge) (list : List IdFilter) (pairs : List (ℕ × ℕ)) → Suited names old list pairs 0 old
suited_none names old list pairs = record { same = refl; by = λ all among judged. (judged, refl) }

-- a judge in the place of one of the same filter
filters-set : (judges : List ValueJudge) (i : ℕ) (j d : ValueJudge) → i < length judges → j.judge ≡ (get_or judges i d).judge → filters_of (set judges i j) ≡ filters_of judges
filters-set [] i j d inside same = absurd (omega arith)
filters-set (x ∷ judges) zero j d inside same = ap (λ f. f ∷ filters_of judges) same
filters-set (x ∷ judges) (suc i) j d inside same = ap (λ l. x.judge ∷ l) (filters-set judges i j d (omega (arith, inside)) same)

module _ (names : Names) (old : List ValueJudge) (list : List IdFilter) (pairs : List (ℕ × ℕ)) (many : length old ≡ length list) (i : ℕ) (now : List ValueJudge) (p : Suited names old list pairs i now) where
  now_many : length now ≡ length old
  now_many = sym (length-map now (λ (j : ValueJudge). j.judge)) ∙ ap length p.same ∙ length-map old (λ (j : ValueJudge). j.judge)

  module _ (x : ValueJudge) (y : IdFilter) (inside : i < length old) (x_is : x ≡ get_or now i x) (next : ValueJudge) (b : Bool) (h : HasJudged names x next b (λ all. suits_one all (get_or list i y).key x.judge.test pairs)) where
    within : i < length now
    within = let n = now_many in omega (arith, inside, n)

    its : get_or (filters_of old) i x.judge ≡ x.judge
    its = ap (λ fs. get_or fs i x.judge) (sym p.same) ∙ get_or-map (λ (j : ValueJudge). j.judge) now i x x.judge within ∙ ap (λ (j : ValueJudge). j.judge) (sym x_is)

    same_next : filters_of (set now i next) ≡ filters_of old
    same_next = filters-set now i next x within (h.same ∙ ap (λ (j : ValueJudge). j.judge) x_is) ∙ p.same

    left : (all : Names) → AreAmong names all → All (IsJudgedBy all) old → All (IsJudgedBy all) (set now i next) × (suits all (filters_of old) list pairs ≡ (b && suits all (drop (i + 1) (filters_of old)) (drop (i + 1) list) pairs))
    left all among judged =
        let w = p.by all among judged in
        let n = h.by all among (subst (IsJudgedBy all) (sym x_is) (All-get_or (IsJudgedBy all) now i x within w.0)) in
        let low : i < length (filters_of old) = (let c = length-map old (λ (j : ValueJudge). j.judge) in omega (arith, inside, c)) in
        let here : suits_one all (get_or list i y).key (get_or (filters_of old) i x.judge).test pairs ≡ b = ap (λ (f : Filter). suits_one all (get_or list i y).key f.test pairs) its ∙ sym n.1 in (
          All-set (IsJudgedBy all) now i next n.0 w.0,
          w.1 ∙ (λ k. suits all (drop_more (filters_of old) i x.judge low k) (drop_more list i y (omega (arith, inside, many)) k) pairs) ∙ ap (λ t. t && suits all (drop (i + 1) (filters_of old)) (drop (i + 1) list) pairs) here,
        )

    pub suited_more : b ≡ true → Suited names old list pairs (i + 1) (set now i next)
    suited_more is = record {
      same = same_next;
      by = λ all among judged. let w = left all among judged in (w.0, w.1 ∙ ap (λ t. t && suits all (drop (i + 1) (filters_of old)) (drop (i + 1) list) pairs) is);
    }

    pub unsuited : b ≡ false → HaveJudged names old (set now i next) false (λ all. suits all (filters_of old) list pairs)
    unsuited is = record {
      same = same_next;
      by = λ all among judged. let w = left all among judged in (w.0, sym (w.1 ∙ ap (λ t. t && suits all (drop (i + 1) (filters_of old)) (drop (i + 1) list) pairs) is));
    }

  pub suited_all : length old ≤ i → HaveJudged names old now true (λ all. suits all (filters_of old) list pairs)
  suited_all end = record {
    same = p.same;
    by = λ all among judged.
        let w = p.by all among judged in
        let high : length (filters_of old) ≤ i = (let c = length-map old (λ (j : ValueJudge). j.judge) in omega (arith, end, c)) in
        (w.0, sym (w.1 ∙ ap (λ fs. suits all fs (drop i list) pairs) (drop_all i (filters_of old) high)));
  }

-- ---- what judges at first

pub record Made (done : List Filter) (judges : List ValueJudge) : Type 0 where
  pub filters_are : filters_of judges ≡ done
  pub judged : (all : Names) → All (IsJudgedBy all) judges

pub made_none : (judges : List ValueJudge) → judges ≡ [] → Made [] judges
made_none judges none = record { filters_are = ap filters_of none; judged = λ all. subst (All (IsJudgedBy all)) (sym none) (All-nil (IsJudgedBy all)) }

pub made_more : (done : List Filter) (judges longer : List ValueJudge) (j : ValueJudge) (filter : Filter) → Made done judges → j.judge ≡ filter → j.judged.entries ≡ [] → longer ≡ judges ++ j ∷ [] → Made (done ++ filter ∷ []) longer
made_more done judges longer j filter made its none longer_is = record {
  filters_are = ap filters_of longer_is ∙ map-append (λ (x : ValueJudge). x.judge) judges (j ∷ []) ∙ (λ i. made.filters_are i ++ its i ∷ []);
  judged = λ all. subst (All (IsJudgedBy all)) (sym longer_is) (All-push (IsJudgedBy all) judges j (made.judged all) (λ id b e. absurd (none_some b (sym (ap (λ l. at_id l id) none) ∙ e))));
}

none_left : {X : Type 0} (xs : List X) → length xs ≡ 0 → xs ≡ []
none_left [] e = refl
none_left (x ∷ xs) e = absurd (omega (arith, e))

pub made_all : (whole done rest : List Filter) (judges : List ValueJudge) → whole ≡ done ++ rest → length rest ≡ 0 → Made done judges → AreFresh whole judges
made_all whole done rest judges is none made = record { filters_are = made.filters_are ∙ sym (is ∙ ap (λ l. done ++ l) (none_left rest none) ∙ append-nil done); judged = made.judged }
