-- Keeping the best dots of a list that rises by offset.
use Rattle.std.proofs.Common.{◌≡◌, ◌≢◌, ◌⊎◌, inl, inr, ℕ, ◌+◌, ◌-◌, ◌≤◌, ◌<◌, Bool, true, false, cond, List, [], ◌∷◌, ◌++◌, length, take, drop, get_or, set, refl, sym, ap, subst, ◌∙◌, add-zero, arith, rules, append_assoc}
use Rattle.std.specs.Prelude.{ℤ, AllPairs, Contains, nat_le, if◌then◌else◌}
use Rattle.std.specs.List.Sorted.{IsNonDecreasingBy}
use Rattle.std.proofs.lemmas.List.{drop-drop, drop-set-lt, get_or-drop, length-set, length-take-le, length_push, take-append-drop, take-take, take_all, take_at, take_more, take_more_set}
use Rattle.std.proofs.lemmas.Grind.{drop_more_same, take-set_at}
use Rattle.std.proofs.lemmas.List.Elements.{Contains-append_left, Contains-append_cases, Contains-push, Contains-push_cases}
use Rattle.qual_codec.specs.declared.cells.Item.{Item}
use Rattle.qual_codec.specs.declared.cells.Dot.{Dot}
use Rattle.qual_codec.specs.declared.cells.MergeFault.{MergeFault}
use Rattle.qual_codec.specs.declared.cells.MergeFault.TheVariants.{Conflict, OutOfMemory}
use Rattle.qual_codec.specs.Order.{IsAsGood}
use Rattle.qual_codec.specs.Merge.{offset_of, values_at, first_conflict}
use Rattle.qual_codec.specs.MergeSteps.{is_as_good, EndsAt, EndsElsewhere, AddsDot, AddsWithin, CannotAdd, KeepsAll, ConflictsHere, ConflictsIn}
use Rattle.qual_codec.specs.MergeSteps.AddsDot.{behind_all, at_last}
use Rattle.list_lemmas.proofs.ListParts.{pairs_push, pairs_before, pairs_behind, pairs_front, HasLast, empty_or_last}
use Rattle.qual_codec.proofs.Values.{no_conflict, one_conflict, value_dot, dot_value, values_append, values_cons}
use Rattle.list_lemmas.proofs.ListMembers.{here, there, not_in, split}
use Rattle.qual_codec.proofs.Ordering.{good_refl, good_trans}

-- one dot is at a lower offset than another
abbrev pub Rise : Dot → Dot → Type 0
Rise d e = d.item.offset < e.item.offset

-- ---- better items

-- one of two items is as good as the other
one_good : (i j : Item) → i.offset ≡ j.offset → (t : Bool) → is_as_good i j ≡ t → (IsAsGood i j × (t ≡ true)) ⊎ (IsAsGood j i × (t ≡ false))
one_good i j o t e = at i.fine j.fine refl refl t e
  where
    by_len : (f : Bool) → i.fine ≡ f → j.fine ≡ f → (t : Bool) → nat_le i.len j.len ≡ t → (IsAsGood i j × (t ≡ true)) ⊎ (IsAsGood j i × (t ≡ false))
    by_len f x y true e = inl (record { offset = o; better = inr (x ∙ sym y, search (rules, e)) }, refl)
    by_len f x y false e = let lt : j.len < i.len = search (rules, e) in inr (record { offset = sym o; better = inr (y ∙ sym x, omega (arith, lt)) }, refl)

    at : (f g : Bool) → i.fine ≡ f → j.fine ≡ g → (t : Bool) → cond f (cond g (nat_le i.len j.len) true) (cond g false (nat_le i.len j.len)) ≡ t → (IsAsGood i j × (t ≡ true)) ⊎ (IsAsGood j i × (t ≡ false))
    at true true x y t e = by_len true x y t e
    at false false x y t e = by_len false x y t e
    at true false x y true e = inl (record { offset = o; better = inl (x, y) }, refl)
    at true false x y false e = cc
    at false true x y true e = cc
    at false true x y false e = inr (record { offset = sym o; better = inl (y, x) }, refl)

-- the better of two dots of one offset and value
record BetterOf (d e b : Dot) : Type 0 where
  one : (d ≡ b) ⊎ (e ≡ b)
  old : IsAsGood d.item b.item
  new : IsAsGood e.item b.item

better_of : (d e : Dot) → d.item.offset ≡ e.item.offset → BetterOf d e (if is_as_good d.item e.item then e else d)
better_of d e o = at (is_as_good d.item e.item) refl
  where
    at : (t : Bool) → is_as_good d.item e.item ≡ t → BetterOf d e (if t then e else d)
    at t h = go t (one_good d.item e.item o t h)
      where
        go : (t : Bool) → (IsAsGood d.item e.item × (t ≡ true)) ⊎ (IsAsGood e.item d.item × (t ≡ false)) → BetterOf d e (if t then e else d)
        go true (inl w) = record { one = inr refl; old = w.0; new = good_refl e.item }
        go true (inr w) = let bad = w.1 in cc
        go false (inl w) = let bad = w.1 in cc
        go false (inr w) = record { one = inl refl; old = good_refl d.item; new = w.0 }

-- ---- what was kept of the dots so far

pub record KeptOf (dots kept : List Dot) : Type 0 where
  pub rising : AllPairs Rise kept
  pub each : (d : Dot) → Contains kept d → Contains dots d
  pub best : (d : Dot) → Contains dots d → (e : Dot) × Contains kept e × IsAsGood d.item e.item
  pub one : (k d : Dot) → Contains kept k → Contains dots d → k.item.offset ≡ d.item.offset → d.value ≡ k.value

pub kept_none : KeptOf [] []
kept_none = record {
  rising = λ i j d lt within. absurd (omega (arith, within));
  each = λ d c. c;
  best = λ d c. absurd (not_in d c);
  one = λ k d c. absurd (not_in k c);
}

-- at one offset is one value
one_of : (dots kept : List Dot) → KeptOf dots kept → (d e : Dot) → Contains dots d → Contains dots e → d.item.offset ≡ e.item.offset → d.value ≡ e.value
one_of dots kept k d e c i o = let b = k.best d c in k.one b.0 d b.1 c (sym b.2.offset) ∙ sym (k.one b.0 e b.1 i (sym b.2.offset ∙ o))

pub kept_all : (dots kept : List Dot) → KeptOf dots kept → KeepsAll dots kept
kept_all dots kept k = record {
  rising = k.rising;
  each = k.each;
  best = k.best;
  one_value = λ offset. no_conflict (values_at offset dots) (λ v w c i.
      let a = value_dot dots offset v c in let b = value_dot dots offset w i in
      sym a.value_is ∙ one_of dots kept k a.dot b.dot a.among b.among (a.offset_is ∙ sym b.offset_is) ∙ b.value_is);
}

-- where the last one has another offset, all have a lower one
kept_below : (kept : List Dot) (x : Dot) → AllPairs Rise kept → ((d : Dot) → Contains kept d → d.item.offset ≤ x.item.offset) → EndsElsewhere kept x.item.offset → (d : Dot) → Contains kept d → d.item.offset < x.item.offset
kept_below kept x rising low other d c = at (empty_or_last kept)
  where
    at : (kept ≡ []) ⊎ HasLast kept → d.item.offset < x.item.offset
    at (inl none) = absurd (not_in d (subst (λ (l : List Dot). Contains l d) none c))
    at (inr w) = go (Contains-push_cases w.front w.last d (subst (λ (l : List Dot). Contains l d) w.parts c))
      where
        last_low : w.last.item.offset ≤ x.item.offset
        last_low = low w.last (subst (λ (l : List Dot). Contains l w.last) (sym w.parts) (Contains-push w.front w.last))

        last_other : w.last.item.offset ≢ x.item.offset
        last_other e = other w.front w.last (record { parts = w.parts; offset_is = e })

        last_below : w.last.item.offset < x.item.offset
        last_below = let a = last_low in let b = last_other in omega (arith, a, b)

        go : Contains w.front d ⊎ (w.last ≡ d) → d.item.offset < x.item.offset
        go (inl front) = let up = pairs_before Rise w.front w.last [] (subst (AllPairs Rise) w.parts rising) d front in let a = last_below in omega (arith, up, a)
        go (inr same) = subst (λ (y : Dot). y.item.offset < x.item.offset) same last_below

module _ (dots : List Dot) (kept : List Dot) (k : KeptOf dots kept) (x : Dot) (low : (d : Dot) → Contains dots d → d.item.offset ≤ x.item.offset) where
  add_next : EndsElsewhere kept x.item.offset → KeptOf (dots ++ x ∷ []) (kept ++ x ∷ [])
  add_next other = record {
    rising = pairs_push Rise kept x k.rising below;
    each = λ d c. elim (Contains-push_cases kept x d c) [ inl i ↦ Contains-append_left dots (x ∷ []) d (k.each d i) | inr same ↦ subst (Contains (dots ++ x ∷ [])) same (Contains-push dots x) ];
    best = λ d c. best d (Contains-push_cases dots x d c);
    one = λ a d c i o. one a d (Contains-push_cases kept x a c) (Contains-push_cases dots x d i) o;
  }
    where
      below : (d : Dot) → Contains kept d → d.item.offset < x.item.offset
      below = kept_below kept x k.rising (λ d c. low d (k.each d c)) other

      best : (d : Dot) → Contains dots d ⊎ (x ≡ d) → (e : Dot) × Contains (kept ++ x ∷ []) e × IsAsGood d.item e.item
      best d (inl c) = let b = k.best d c in (b.0, Contains-append_left kept (x ∷ []) b.0 b.1, b.2)
      best d (inr same) = (x, Contains-push kept x, subst (λ (y : Dot). IsAsGood y.item x.item) same (good_refl x.item))

      one : (a d : Dot) → Contains kept a ⊎ (x ≡ a) → Contains dots d ⊎ (x ≡ d) → a.item.offset ≡ d.item.offset → d.value ≡ a.value
      one a d (inl c) (inl i) o = k.one a d c i o
      one a d (inl c) (inr same) o = let up = below a c in let e = ap (λ (y : Dot). y.item.offset) same in absurd (omega (arith, up, e, o))
      one a d (inr same) (inl i) o = let b = k.best d i in let up = below b.0 b.1 in let e = ap (λ (y : Dot). y.item.offset) same in let f = b.2.offset in absurd (omega (arith, up, e, o, f))
      one a d (inr same) (inr also) o = ap (λ (y : Dot). y.value) (sym also ∙ same)

  module _ (front : List Dot) (last : Dot) (ends : EndsAt kept x.item.offset front last) where
    front_kept : (d : Dot) → Contains front d → Contains kept d
    front_kept d c = subst (λ (l : List Dot). Contains l d) (sym ends.parts) (Contains-append_left front (last ∷ []) d c)

    last_kept : Contains kept last
    last_kept = subst (λ (l : List Dot). Contains l last) (sym ends.parts) (Contains-push front last)

    front_below : (d : Dot) → Contains front d → d.item.offset < last.item.offset
    front_below d c = pairs_before Rise front last [] (subst (AllPairs Rise) ends.parts k.rising) d c

    add_same : (b : Dot) → BetterOf last x b → last.value ≡ x.value → KeptOf (dots ++ x ∷ []) (front ++ b ∷ [])
    add_same b better value = record {
      rising = pairs_push Rise front b (pairs_front Rise front (last ∷ []) (subst (AllPairs Rise) ends.parts k.rising)) (λ d c. let up = front_below d c in let o = better.old.offset in omega (arith, up, o));
      each = λ d c. each d (Contains-push_cases front b d c);
      best = λ d c. best d (Contains-push_cases dots x d c);
      one = λ a d c i o. one a d (Contains-push_cases front b a c) (Contains-push_cases dots x d i) o;
    }
      where
        b_value : last.value ≡ b.value
        b_value = elim better.one [ inl same ↦ ap (λ (y : Dot). y.value) same | inr same ↦ value ∙ ap (λ (y : Dot). y.value) same ]

        b_in : Contains (dots ++ x ∷ []) b
        b_in = elim better.one [
          | inl same ↦ subst (Contains (dots ++ x ∷ [])) same (Contains-append_left dots (x ∷ []) last (k.each last last_kept))
          | inr same ↦ subst (Contains (dots ++ x ∷ [])) same (Contains-push dots x)
        ]

        each : (d : Dot) → Contains front d ⊎ (b ≡ d) → Contains (dots ++ x ∷ []) d
        each d (inl c) = Contains-append_left dots (x ∷ []) d (k.each d (front_kept d c))
        each d (inr same) = subst (Contains (dots ++ x ∷ [])) same b_in

        best : (d : Dot) → Contains dots d ⊎ (x ≡ d) → (e : Dot) × Contains (front ++ b ∷ []) e × IsAsGood d.item e.item
        best d (inr same) = (b, Contains-push front b, subst (λ (y : Dot). IsAsGood y.item b.item) same better.new)
        best d (inl c) = let w = k.best d c in go w.0 (Contains-push_cases front last w.0 (subst (λ (l : List Dot). Contains l w.0) ends.parts w.1)) w.2
          where
            go : (e : Dot) → Contains front e ⊎ (last ≡ e) → IsAsGood d.item e.item → (e : Dot) × Contains (front ++ b ∷ []) e × IsAsGood d.item e.item
            go e (inl i) good = (e, Contains-append_left front (b ∷ []) e i, good)
            go e (inr same) good = (b, Contains-push front b, good_trans d.item last.item b.item (subst (λ (y : Dot). IsAsGood d.item y.item) (sym same) good) better.old)

        one : (a d : Dot) → Contains front a ⊎ (b ≡ a) → Contains dots d ⊎ (x ≡ d) → a.item.offset ≡ d.item.offset → d.value ≡ a.value
        one a d (inl c) (inl i) o = k.one a d (front_kept a c) i o
        one a d (inl c) (inr same) o = let up = front_below a c in let e = ap (λ (y : Dot). y.item.offset) same in let f = ends.offset_is in absurd (omega (arith, up, e, f, o))
        one a d (inr same) (inl i) o = k.one last d last_kept i (better.old.offset ∙ ap (λ (y : Dot). y.item.offset) same ∙ o) ∙ b_value ∙ ap (λ (y : Dot). y.value) same
        one a d (inr same) (inr also) o = ap (λ (y : Dot). y.value) (sym also) ∙ sym value ∙ b_value ∙ ap (λ (y : Dot). y.value) same

    -- a dot of another value conflicts with it
    conflict_here : (rest : List Dot) → ((d : Dot) → Contains rest d → x.item.offset ≤ d.item.offset) → last.value ≢ x.value → ConflictsHere (dots ++ x ∷ rest) x.item.offset last.value x.value
    conflict_here rest up differ = record {
      dot = x;
      among = there_mid dots;
      offset_is = refl;
      values = ap first_conflict (values_append x.item.offset dots (x ∷ rest) ∙ ap (λ (l : List ℤ). values_at x.item.offset dots ++ l) (values_cons x rest)) ∙ one_conflict last.value x.value (values_at x.item.offset dots) (values_at x.item.offset rest) (dot_value dots last x.item.offset (k.each last last_kept) ends.offset_is)
          (λ v c. let w = value_dot dots x.item.offset v c in sym (k.one last w.dot last_kept w.among (ends.offset_is ∙ sym w.offset_is)) ∙ w.value_is) differ;
      least = λ lower lt. no_conflict (values_at lower (dots ++ x ∷ rest)) (λ v w c i.
          let a = value_dot (dots ++ x ∷ rest) lower v c in let b = value_dot (dots ++ x ∷ rest) lower w i in
          sym a.value_is ∙ one_of dots kept k a.dot b.dot (early a.dot (subst (λ n. n < x.item.offset) (sym a.offset_is) lt) a.among) (early b.dot (subst (λ n. n < x.item.offset) (sym b.offset_is) lt) b.among) (a.offset_is ∙ sym b.offset_is) ∙ b.value_is);
    }
      where
        there_mid : (ds : List Dot) → Contains (ds ++ x ∷ rest) x
        there_mid [] = here x rest
        there_mid (d ∷ ds) = there d x (ds ++ x ∷ rest) (there_mid ds)

        early : (d : Dot) → d.item.offset < x.item.offset → Contains (dots ++ x ∷ rest) d → Contains dots d
        early d lt c = at (Contains-append_cases dots (x ∷ rest) d c)
          where
            at : Contains dots d ⊎ Contains (x ∷ rest) d → Contains dots d
            at (inl i) = i
            at (inr i) = elim (split x d rest i) [ inl same ↦ let e = ap (λ (y : Dot). y.item.offset) same in absurd (omega (arith, lt, e)) | inr later ↦ let le = up d later in absurd (omega (arith, lt, le)) ]

-- ---- one dot more

-- the dots before one of a list that rises, and those behind it
pub record At (dots : List Dot) (i : ℕ) (x : Dot) : Type 0 where
  pub parts : dots ≡ take i dots ++ x ∷ drop (i + 1) dots
  pub more : take (i + 1) dots ≡ take i dots ++ x ∷ []
  pub low : (d : Dot) → Contains (take i dots) d → d.item.offset ≤ x.item.offset
  pub up : (d : Dot) → Contains (drop (i + 1) dots) d → x.item.offset ≤ d.item.offset

-- those before an element of a list that rises are not above it, and those behind are not below
mid : (dots front back : List Dot) (x : Dot) → dots ≡ front ++ x ∷ back → IsNonDecreasingBy offset_of dots
    → ((d : Dot) → Contains front d → d.item.offset ≤ x.item.offset) × ((d : Dot) → Contains back d → x.item.offset ≤ d.item.offset)
mid dots front back x parts rises = (pairs_before NotBelow front x back (subst (AllPairs NotBelow) parts pairs), pairs_behind NotBelow front x back (subst (AllPairs NotBelow) parts pairs))
  where
    NotBelow : Dot → Dot → Type 0
    NotBelow d e = d.item.offset ≤ e.item.offset

    pairs : AllPairs NotBelow dots
    pairs = λ a b d lt within. rises a b d (omega (arith, lt)) within

pub at_dot : (dots : List Dot) (i : ℕ) (e : Dot) → i < length dots → IsNonDecreasingBy offset_of dots → At dots i (get_or dots i e)
at_dot dots i e lt rises =
    let more = take_more dots i e lt in
    let parts = sym (take-append-drop (i + 1) dots) ∙ ap (λ (l : List Dot). l ++ drop (i + 1) dots) more ∙ append_assoc (take i dots) (get_or dots i e ∷ []) (drop (i + 1) dots) in
    let m = mid dots (take i dots) (drop (i + 1) dots) (get_or dots i e) parts rises in
    record { parts = parts; more = more; low = m.0; up = m.1 }

pub kept_more : (dots kept new : List Dot) (i : ℕ) (x : Dot) → KeptOf (take i dots) kept → At dots i x → AddsDot kept x new → KeptOf (take (i + 1) dots) new
kept_more dots kept new i x k at (behind_all other) = subst (λ (l : List Dot). KeptOf l (kept ++ x ∷ [])) (sym at.more) (add_next (take i dots) kept k x at.low other)
kept_more dots kept new i x k at (at_last front last ends value) =
    subst (λ (l : List Dot). KeptOf l (front ++ (if is_as_good last.item x.item then x else last) ∷ [])) (sym at.more)
    (add_same (take i dots) kept k x at.low front last ends (if is_as_good last.item x.item then x else last) (better_of last x ends.offset_is) value)

pub conflict_at : (dots kept : List Dot) (i : ℕ) (x : Dot) (fault : MergeFault) → KeptOf (take i dots) kept → At dots i x → CannotAdd kept x fault → ConflictsIn dots fault
conflict_at dots kept i x (Conflict offset a b) k at w =
    subst (λ (l : List Dot). ConflictsHere l offset a b) (sym at.parts)
    (subst (λ o. ConflictsHere (take i dots ++ x ∷ drop (i + 1) dots) o a b) (sym w.offset_is)
    (subst (λ (v : ℤ). ConflictsHere (take i dots ++ x ∷ drop (i + 1) dots) x.item.offset v b) (sym w.a_is)
    (subst (λ (v : ℤ). ConflictsHere (take i dots ++ x ∷ drop (i + 1) dots) x.item.offset w.last.value v) (sym w.b_is)
    (conflict_here (take i dots) kept k x at.low w.front w.last w.ends (drop (i + 1) dots) at.up w.values))))
conflict_at dots kept i x OutOfMemory k at w = tt

-- ---- what the code adds, in place

pub keep_next : (old new : List Dot) (end : ℕ) (x : Dot) → end < length old → EndsElsewhere (take end old) x.item.offset → new ≡ set old end x → AddsWithin old end x (end + 1) new
keep_next old new end x lt other is = record {
  adds = subst (AddsDot (take end old) x) (sym (ap (take (end + 1)) is ∙ take_more_set old end x lt)) (behind_all other);
  rest = ap (drop (end + 1)) is ∙ drop-set-lt (end + 1) old end x (omega arith);
  within = omega arith;
  same_length = ap (λ (l : List Dot). length l) is ∙ length-set old end x;
}

module _ (old : List Dot) (end : ℕ) (x last : Dot) (lt : end < length old) (front : List Dot) (ends : EndsAt (take end old) x.item.offset front last) (value : last.value ≡ x.value) where
  front_length : length front + 1 ≡ end
  front_length = sym (length_push front last) ∙ sym (ap (λ (l : List Dot). length l) ends.parts) ∙ length-take-le end old (omega (arith, lt))

  front_is : take (end - 1) old ≡ front
  front_is = sym (take-take (end - 1) end old (omega arith)) ∙ ap (take (end - 1)) ends.parts ∙ take_at front (last ∷ []) (end - 1) (let n = front_length in omega (arith, n))

  pub keep_better : (new : List Dot) → is_as_good last.item x.item ≡ true → new ≡ set old (end - 1) x → AddsWithin old end x end new
  keep_better new good is = record {
    adds = subst (AddsDot (take end old) x) (ap (λ (t : Bool). front ++ (if t then x else last) ∷ []) good ∙ sym (ap (take end) is ∙ placed)) (at_last front last ends value);
    rest = ap (drop (end + 1)) is ∙ drop-set-lt (end + 1) old (end - 1) x (omega arith);
    within = omega arith;
    same_length = ap (λ (l : List Dot). length l) is ∙ length-set old (end - 1) x;
  }
    where
      placed : take end (set old (end - 1) x) ≡ front ++ x ∷ []
      placed = let n = front_length in take-set_at old (end - 1) end x (omega (arith, n)) (omega (arith, lt)) ∙ ap (λ (l : List Dot). l ++ x ∷ []) front_is

  pub keep_old : is_as_good last.item x.item ≡ false → AddsWithin old end x end old
  keep_old good = record {
    adds = subst (AddsDot (take end old) x) (ap (λ (t : Bool). front ++ (if t then x else last) ∷ []) good ∙ sym ends.parts) (at_last front last ends value);
    rest = refl;
    within = omega arith;
    same_length = refl;
  }

-- what is kept of the first dots stands at the front, and the others stand still
pub record IsKept (dots now : List Dot) (i end : ℕ) : Type 0 where
  pub kept : KeptOf (take i dots) (take end now)
  pub rest : drop i now ≡ drop i dots
  pub within : end ≤ i
  pub same_length : length now ≡ length dots

pub kept_start : (dots : List Dot) → IsKept dots dots 0 0
kept_start dots = record { kept = kept_none; rest = refl; within = omega arith; same_length = refl }

-- the next dot
pub kept_dot : (dots now : List Dot) (i end : ℕ) (x : Dot) → IsKept dots now i end → i < length dots → IsNonDecreasingBy offset_of dots → x ≡ get_or now i x → At dots i x
kept_dot dots now i end x k lt rises is = subst (At dots i) (same ∙ sym is) (at_dot dots i x lt rises)
  where
    front : (l : List Dot) → get_or l i x ≡ get_or (drop i l) 0 x
    front l = ap (λ n. get_or l n x) (sym (add-zero i)) ∙ sym (get_or-drop i l 0 x)

    same : get_or dots i x ≡ get_or now i x
    same = front dots ∙ ap (λ (l : List Dot). get_or l 0 x) (sym k.rest) ∙ sym (front now)

pub kept_step : (dots now new : List Dot) (i end count : ℕ) (x : Dot) → IsKept dots now i end → At dots i x → AddsWithin now end x count new → IsKept dots new (i + 1) count
kept_step dots now new i end count x k at a = record {
  kept = kept_more dots (take end now) (take count new) i x k.kept at a.adds;
  rest = later ∙ drop_more_same now dots i k.rest;
  within = let le = k.within in let n = a.within in omega (arith, le, n);
  same_length = a.same_length ∙ k.same_length;
}
  where
    later : drop (i + 1) new ≡ drop (i + 1) now
    later =
        let le = k.within in
        let n : i + 1 ≡ end + 1 + (i - end) = omega (arith, le) in
        ap (λ m. drop m new) n ∙ sym (drop-drop (i - end) (end + 1) new) ∙ ap (drop (i - end)) a.rest ∙ drop-drop (i - end) (end + 1) now ∙ ap (λ m. drop m now) (sym n)

pub kept_whole : (dots now new : List Dot) (i end : ℕ) → IsKept dots now i end → length dots ≤ i → new ≡ take end now → KeepsAll dots new
kept_whole dots now new i end k whole is = kept_all dots new (subst (KeptOf dots) (sym is) (subst (λ (l : List Dot). KeptOf l (take end now)) (take_all i dots whole) k.kept))
