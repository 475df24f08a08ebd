-- What a walk gives at a time.
use Rattle.std.proofs.Common.{◌≡◌, ℕ, ◌+◌, ◌<◌, ◌≤◌, ◌^◌, min, ℤ, pos, Bool, true, false, eqb, ltb, ◌&&◌, ◌||◌, ◌⊎◌, inl, inr, List, [], ◌∷◌, ◌++◌, length, drop, get_or, Option, None, Some, is_some, refl, sym, ap, subst, ◌∙◌, ⊎_elim, All, append_assoc, append-nil, length-append, suc, arith}
use Rattle.std.specs.List.{AllWithin, filter_map, cons_option, list_any}
use Rattle.std.proofs.lemmas.Bool.{cases_lt, eqb-false, false≢true}
use Rattle.std.proofs.lemmas.List.Elements.{filter_map-append, All-nil, All-cons, All-head, All-tail}
use Rattle.std.proofs.lemmas.List.Folds.{list_any-append}
use Rattle.std.proofs.lemmas.Option.{none-some, same_Some}
use Rattle.lerp_aggregate.specs.declared.cursors.Ahead.{Ahead}
use Rattle.lerp_aggregate.specs.declared.cursors.Cursor.{Cursor}
use Rattle.lerp_aggregate.specs.declared.cursors.Bundle.{Bundle}
use Rattle.lerp_aggregate.specs.declared.cursors.Walk.{Walk, One, Both'}
use Rattle.lerp_aggregate.specs.Aggregation.{value_at, given_at}
use Rattle.lerp_aggregate.specs.Walks.{earliest, series_of, Stands, BundleStands, first_time, earlier, is_inside, next_of, is_due, walk_ahead, walked, StandsAt, StandAt}
use Rattle.lerp_aggregate.specs.declared.tally.Tally.{Tally}
use Rattle.lerp_aggregate.specs.Tally.{Counts, Adds, HasRoom}
use Rattle.lerp_aggregate.proofs.Same.{has_time}
use Rattle.lerp_aggregate.proofs.Standing.{Precedes, Late, Skips, head_is, none_is, at_next, late_than, after_stays, before_stays, before_moves, after_moves, not_here, gives_none, gives_here}

-- how many pairs a walk has
abbrev pub pairs_of : Walk → ℕ
pairs_of (One bundle) = 0
pairs_of (Both' ahead p left q right) = suc (pairs_of left + pairs_of right)

-- of the earlier of two times as of both
precedes_both : (u : ℕ) (a b : Option ℕ) → Precedes u (earlier a b) → Precedes u a × Precedes u b
precedes_both u None b h = (tt, h)
precedes_both u (Some a) None h = (h, tt)
precedes_both u (Some a) (Some b) h = (omega arith, omega arith)

late_both : (u : ℕ) (a b : Option ℕ) → Late u (earlier a b) → Late u a × Late u b
late_both u None b h = (tt, h)
late_both u (Some a) None h = (h, tt)
late_both u (Some a) (Some b) h = (omega arith, omega arith)

late_earlier : (u : ℕ) (a b : Option ℕ) → Late u a → Late u b → Late u (earlier a b)
late_earlier u None b h k = k
late_earlier u (Some a) None h k = h
late_earlier u (Some a) (Some b) h k = omega arith

either_is : (t : ℕ) (a b : Option ℕ) → earlier a b ≡ Some t → (a ≡ Some t) ⊎ (b ≡ Some t)
either_is t None b e = inr e
either_is t (Some a) None e = inl e
either_is t (Some a) (Some b) e =
    let least : min a b ≡ t = same_Some _ _ e in
    ⊎_elim
    (λ (less : a < b). let a_is : a ≡ t = omega (arith, least) in inl (ap Some a_is))
    (λ (more : b ≤ a). let b_is : b ≡ t = omega (arith, least) in inr (ap Some b_is))
    (cases_lt a b)

or_false : (a b : Bool) → (a || b) ≡ false → (a ≡ false) × (b ≡ false)
or_false true b e = absurd (false≢true (sym e))
or_false false b e = (refl, e)

neither : (c i j : Bool) → (c && (i || j)) ≡ false → ((c && i) ≡ false) × ((c && j) ≡ false)
neither true i j e = or_false i j e
neither false i j e = (refl, refl)

-- of a time that both skip
skips_both : (c i j : Bool) (u : ℕ) (a b : Option ℕ) → Skips (c && (i || j)) u (earlier a b) → Skips (c && i) u a × Skips (c && j) u b
skips_both c i j u None None h = (tt, tt)
skips_both c i j u None (Some b) h = (tt, ((neither c i j h.0).1, h.1))
skips_both c i j u (Some a) None h = (((neither c i j h.0).0, h.1), tt)
skips_both c i j u (Some a) (Some b) h =
    let least = h.1 in
    let apart = neither c i j h.0 in
    ((apart.0, omega (arith, least)), (apart.1, omega (arith, least)))

or_true : (a : Bool) → (a || true) ≡ true
or_true true = refl
or_true false = refl

-- a time that is not due
pub skips : (c : Bool) (u : ℕ) (next : Option ℕ) → Late u next → is_due next c u ≡ false → Skips c u next
skips c u None late e = tt
skips c u (Some next) late e =
    let both = or_false c (eqb next u) e in
    let apart = eqb-false next u both.1 in
    (both.0, ⊎_elim (λ (less : u < next). less) (λ (more : next ≤ u). absurd (apart (omega (arith, late)))) (cases_lt u next))

late_first : (s : List (ℕ × ℤ)) (u n : ℕ) → AllWithin (λ p. u ≤ p.0) s n (length s) → Late u (first_time (drop n s))
late_first s u n after =
    ⊎_elim
    (λ (inside : n < length s). subst (Late u) (sym (head_is s n (0, pos 0) inside)) (after n (0, pos 0) (omega arith) inside))
    (λ (end : length s ≤ n). subst (Late u) (sym (none_is s n end)) tt)
    (cases_lt n (length s))

-- a cursor over a series that gives nothing at a time
pub cursor_skips : (s : List (ℕ × ℤ)) (cursor : Cursor) (c : Bool) (time : ℕ) → StandsAt s time cursor → Skips (c && is_inside cursor) time cursor.next → (given_at c s time ≡ None) × StandsAt s (time + 1) cursor
cursor_skips s cursor c time h skip =
    let n = cursor.place in
    let here = subst (λ o. Skips (c && (ltb 0 n && is_some o)) time o) h.next skip in (
      gives_none s n h.rising time time h.before (omega arith) c here,
      record {
        rising = h.rising;
        place = h.place;
        before = before_stays s n h.rising time time h.before (omega arith);
        after = after_stays s n h.rising time (precedes (c && (ltb 0 n && is_some (first_time (drop n s)))) time (first_time (drop n s)) here);
        next = h.next;
      },
    ) where
      precedes : (c : Bool) (u : ℕ) (o : Option ℕ) → Skips c u o → Precedes u o
      precedes c u None h = tt
      precedes c u (Some next) h = h.1

-- at the time of the point at its place
pub cursor_here : (s : List (ℕ × ℤ)) (old : Cursor) (c : Bool) (time : ℕ) (d : ℕ × ℤ) → StandsAt s time old → old.next ≡ Some time → given_at c s time ≡ Some (get_or s old.place d).1
cursor_here s old c time d h is = let at = at_next s old.place time (sym h.next ∙ is) in gives_here s old.place h.rising c time d at.0 (at.1 d)

-- and behind it
pub cursor_passes : (s : List (ℕ × ℤ)) (old new : Cursor) (time : ℕ) → StandsAt s time old → old.next ≡ Some time → new.place ≡ old.place + 1 → new.next ≡ first_time (drop (old.place + 1) s) → StandsAt s (time + 1) new
cursor_passes s old new time h is place next =
    let at = at_next s old.place time (sym h.next ∙ is) in
    let d : ℕ × ℤ = (0, pos 0) in
    let n = old.place in
    record {
      rising = h.rising;
      place = omega (arith, place, at.0);
      before = subst (AllWithin (λ (p : ℕ × ℤ). p.0 < time + 1) s 0) (sym place) (before_moves s n h.rising time time d h.before (omega arith) (at.1 d) at.0);
      after = subst (λ k. AllWithin (λ (p : ℕ × ℤ). time + 1 ≤ p.0) s k (length s)) (sym place) (after_moves s n h.rising time d (at.1 d) at.0);
      next = next ∙ ap (λ k. first_time (drop k s)) (sym place);
    }

-- at a time between two points, or before the first one
pub cursor_between : (s : List (ℕ × ℤ)) (cursor : Cursor) (time next : ℕ) → StandsAt s time cursor → cursor.next ≡ Some next → time < next → (value_at s time ≡ None) × StandsAt s (time + 1) cursor
cursor_between s cursor time next h is before = cursor_skips s cursor false time h (subst (Skips false time) (sym is) (refl, before))

-- the next time of a cursor is not before the time at which it stands
pub cursor_late : (s : List (ℕ × ℤ)) (cursor : Cursor) (time : ℕ) → StandsAt s time cursor → Late time cursor.next
cursor_late s cursor time h = subst (Late time) (sym h.next) (late_first s time cursor.place h.after)

pub length-filter_map : {X Y : Type 0} (h : X → Option Y) (xs : List X) → length (filter_map h xs) ≤ length xs
length-filter_map h [] = omega arith
length-filter_map h (x ∷ xs) =
    elim (h x) as (λ o. length (cons_option o (filter_map h xs)) ≤ suc (length xs)) [
      | None ↦ omega (arith, length-filter_map h xs)
      | Some y ↦ omega (arith, length-filter_map h xs)
    ]

module _ (list : List (List (ℕ × ℤ))) where
  -- the next time is not before the time at which the cursors stand
  late_all : (time : ℕ) (cs : List Cursor) → All (Stands list time) cs → Late time (earliest cs)
  late_all time [] h = tt
  late_all time (c ∷ cs) h =
      late_earlier time c.next (earliest cs) (cursor_late (get_or list c.index []) c time (All-head (Stands list time) c cs h).1) (late_all time cs (All-tail (Stands list time) c cs h))

  pub late_bundle : (time : ℕ) (b : Bundle) → BundleStands list time b → Late time b.ahead.next
  late_bundle time b h = subst (λ (a : Ahead). Late time a.next) (sym h.0) (late_all time b.cursors.items h.1)

  pub late : (time : ℕ) (w : Walk) → StandAt list time w → Late time (next_of w)
  late time (One b) h = late_bundle time b h
  late time (Both' ahead p left q right) h = subst (λ (a : Ahead). Late time a.next) (sym h.0) (late_earlier time (next_of left) (next_of right) (late time left h.1) (late time right h.2))

  -- they stand at a later time too, up to the next one
  onward_all : (T time : ℕ) (cs : List Cursor) → T ≤ time → All (Stands list T) cs → Late time (earliest cs) → All (Stands list time) cs
  onward_all T time [] on h l = All-nil (Stands list time)
  onward_all T time (c ∷ cs) on h l =
      let here = All-head (Stands list T) c cs h in
      let both = late_both time c.next (earliest cs) l in
      let series = get_or list c.index [] in
      All-cons (Stands list time) c cs (
        here.0,
        record {
          rising = here.1.rising;
          place = here.1.place;
          before = λ k d low high. let b : (get_or series k d).0 < T = here.1.before k d low high in omega (arith, b, on);
          after = late_than series c.place here.1.rising time (subst (Late time) here.1.next both.0);
          next = here.1.next;
        },
      )
      (onward_all T time cs on (All-tail (Stands list T) c cs h) both.1)

  pub onward : (T time : ℕ) (w : Walk) → T ≤ time → StandAt list T w → Late time (next_of w) → StandAt list time w
  onward T time (One b) on h l = (h.0, onward_all T time b.cursors.items on h.1 (subst (λ (a : Ahead). Late time a.next) h.0 l))
  onward T time (Both' ahead p left q right) on h l =
      let both = late_both time (next_of left) (next_of right) (subst (λ (a : Ahead). Late time a.next) h.0 l) in
      (h.0, onward T time left on h.1 both.0, onward T time right on h.2 both.1)

  -- nothing is given at a time that is skipped
  skipped_all : (c : Bool) (time : ℕ) (cs : List Cursor) → All (Stands list time) cs → Skips (c && list_any is_inside cs) time (earliest cs) → (filter_map (λ s. given_at c s time) (series_of list cs) ≡ []) × All (Stands list (time + 1)) cs
  skipped_all c time [] h s = (refl, All-nil (Stands list (time + 1)))
  skipped_all c time (cursor ∷ cs) h s =
      let here = All-head (Stands list time) cursor cs h in
      let both = skips_both c (is_inside cursor) (list_any is_inside cs) time cursor.next (earliest cs) s in
      let one = cursor_skips (get_or list cursor.index []) cursor c time here.1 both.0 in
      let rest = skipped_all c time cs (All-tail (Stands list time) cursor cs h) both.1 in
      ((λ i. cons_option (one.0 i) (rest.0 i)), All-cons (Stands list (time + 1)) cursor cs (here.0, one.1) rest.1)

  pub skipped_bundle : (c : Bool) (time : ℕ) (b : Bundle) → BundleStands list time b → Skips (c && b.ahead.inside) time b.ahead.next → (filter_map (λ s. given_at c s time) (series_of list b.cursors.items) ≡ []) × BundleStands list (time + 1) b
  skipped_bundle c time b h s = let both = skipped_all c time b.cursors.items h.1 (subst (λ (a : Ahead). Skips (c && a.inside) time a.next) h.0 s) in (both.0, (h.0, both.1))

  pub skipped : (c : Bool) (time : ℕ) (w : Walk) → StandAt list time w → Skips (c && (walk_ahead w).inside) time (next_of w) → (filter_map (λ s. given_at c s time) (walked list w) ≡ []) × StandAt list (time + 1) w
  skipped c time (One b) h s = skipped_bundle c time b h s
  skipped c time (Both' ahead p left q right) h s =
      let both = skips_both c (walk_ahead left).inside (walk_ahead right).inside time (next_of left) (next_of right) (subst (λ (a : Ahead). Skips (c && a.inside) time a.next) h.0 s) in
      let l = skipped c time left h.1 both.0 in
      let r = skipped c time right h.2 both.1 in
      (filter_map-append (λ s. given_at c s time) (walked list left) (walked list right) ∙ (λ i. l.0 i ++ r.0 i), (h.0, l.1, r.1))

  -- no series has a value before the next time
  none_before_all : (T u : ℕ) (cs : List Cursor) → T ≤ u → All (Stands list T) cs → Precedes u (earliest cs) → has_time (series_of list cs) u ≡ false
  none_before_all T u [] on h before = refl
  none_before_all T u (c ∷ cs) on h before =
      let here = (All-head (Stands list T) c cs h).1 in
      let both = precedes_both u c.next (earliest cs) before in
      λ i. is_some (not_here (get_or list c.index []) c.place here.rising T u here.before on (subst (Precedes u) here.next both.0) i) || none_before_all T u cs on (All-tail (Stands list T) c cs h) both.1 i

  pub none_before_next : (T u : ℕ) (w : Walk) → T ≤ u → StandAt list T w → Precedes u (next_of w) → has_time (walked list w) u ≡ false
  none_before_next T u (One b) on h before = none_before_all T u b.cursors.items on h.1 (subst (λ (a : Ahead). Precedes u a.next) h.0 before)
  none_before_next T u (Both' ahead p left q right) on h before =
      let both = precedes_both u (next_of left) (next_of right) (subst (λ (a : Ahead). Precedes u a.next) h.0 before) in
      list_any-append (λ series. is_some (value_at series u)) (walked list left) (walked list right) ∙ (λ i. none_before_next T u left on h.1 both.0 i || none_before_next T u right on h.2 both.1 i)

  -- some series has one at it
  some_at_all : (time : ℕ) (cs : List Cursor) → All (Stands list time) cs → earliest cs ≡ Some time → has_time (series_of list cs) time ≡ true
  some_at_all time [] h is = absurd (none-some time is)
  some_at_all time (c ∷ cs) h is =
      let series = get_or list c.index [] in
      let rest = has_time (series_of list cs) time in
      ⊎_elim
      (λ (l : c.next ≡ Some time). ap (λ o. is_some o || rest) (cursor_here series c false time (0, pos 0) (All-head (Stands list time) c cs h).1 l))
      (λ (r : earliest cs ≡ Some time). ap (λ b. is_some (value_at series time) || b) (some_at_all time cs (All-tail (Stands list time) c cs h) r) ∙ or_true (is_some (value_at series time)))
      (either_is time c.next (earliest cs) is)

  pub some_at_next : (time : ℕ) (w : Walk) → StandAt list time w → next_of w ≡ Some time → has_time (walked list w) time ≡ true
  some_at_next time (One b) h is = some_at_all time b.cursors.items h.1 (sym (ap (λ (a : Ahead). a.next) h.0) ∙ is)
  some_at_next time (Both' ahead p left q right) h is =
      list_any-append (λ series. is_some (value_at series time)) (walked list left) (walked list right) ∙ ⊎_elim
      (λ (l : next_of left ≡ Some time). ap (λ b. b || has_time (walked list right) time) (some_at_next time left h.1 l))
      (λ (r : next_of right ≡ Some time). ap (λ b. has_time (walked list left) time || b) (some_at_next time right h.2 r) ∙ or_true (has_time (walked list left) time))
      (either_is time (next_of left) (next_of right) (sym (ap (λ (a : Ahead). a.next) h.0) ∙ is))

  -- and that time is below the limit
  limited_all : (T time : ℕ) (cs : List Cursor) → All (λ series. All (λ p. p.0 < 2 ^ 43) series) list → All (Stands list T) cs → earliest cs ≡ Some time → time < 2 ^ 43
  limited_all T time [] limit h is = absurd (none-some time is)
  limited_all T time (c ∷ cs) limit h is =
      let here = All-head (Stands list T) c cs h in
      ⊎_elim
      (λ (l : c.next ≡ Some time).
      let series = get_or list c.index [] in
      let d : ℕ × ℤ = (0, pos 0) in
      let at = at_next series c.place time (sym here.1.next ∙ l) in
      let below : (get_or series c.place d).0 < 2 ^ 43 = limit c.index [] here.0 c.place d at.0 in
      let same = at.1 d in
      omega (arith, below, same))
      (λ (r : earliest cs ≡ Some time). limited_all T time cs limit (All-tail (Stands list T) c cs h) r)
      (either_is time c.next (earliest cs) is)

  pub next_limited : (T time : ℕ) (w : Walk) → All (λ series. All (λ p. p.0 < 2 ^ 43) series) list → StandAt list T w → next_of w ≡ Some time → time < 2 ^ 43
  next_limited T time (One b) limit h is = limited_all T time b.cursors.items limit h.1 (sym (ap (λ (a : Ahead). a.next) h.0) ∙ is)
  next_limited T time (Both' ahead p left q right) limit h is =
      ⊎_elim (λ (l : next_of left ≡ Some time). next_limited T time left limit h.1 l) (λ (r : next_of right ≡ Some time). next_limited T time right limit h.2 r)
      (either_is time (next_of left) (next_of right) (sym (ap (λ (a : Ahead). a.next) h.0) ∙ is))

  -- there is room for the left half, and then for the right one
  pub room_left : (old : Tally) (left right : Walk) → HasRoom old (length (walked list left ++ walked list right)) → HasRoom old (length (walked list left))
  room_left old left right room =
      let small = room.few in
      record { values = room.values; counts = room.counts; few = omega (arith, small, length-append (walked list left) (walked list right)) }

  pub room_right : (old mid : Tally) (c : Bool) (time : ℕ) (left right : Walk) → HasRoom old (length (walked list left ++ walked list right)) → Adds old mid (filter_map (λ s. given_at c s time) (walked list left)) → HasRoom mid (length (walked list right))
  room_right old mid c time left right room adds =
      let given = filter_map (λ (s : List (ℕ × ℤ)). given_at c s time) (walked list left) in
      let few = length-filter_map (λ (s : List (ℕ × ℤ)). given_at c s time) (walked list left) in
      let small = room.few in
      record {
        values = room.values ++ given;
        counts = adds.adds room.values room.counts;
        few = omega (arith, small, few, length-append room.values given, length-append (walked list left) (walked list right));
      }

  -- what both halves give
  pub adds_both : (old mid new : Tally) (c : Bool) (time : ℕ) (left right : Walk) → Adds old mid (filter_map (λ s. given_at c s time) (walked list left)) → Adds mid new (filter_map (λ s. given_at c s time) (walked list right))
      → Adds old new (filter_map (λ s. given_at c s time) (walked list left ++ walked list right))
  adds_both old mid new c time left right first second =
      let gives = λ (s : List (ℕ × ℤ)). given_at c s time in
      let l = filter_map gives (walked list left) in
      let r = filter_map gives (walked list right) in
      record { adds = λ values h. subst (Counts new) (append_assoc values l r ∙ ap (λ more. values ++ more) (sym (filter_map-append gives (walked list left) (walked list right)))) (second.adds (values ++ l) (first.adds values h)) }

  -- nothing more
  pub adds_none : (tally : Tally) (more : List ℤ) → more ≡ [] → Adds tally tally more
  adds_none tally more none = record { adds = λ values h. subst (Counts tally) (sym (append-nil values) ∙ ap (λ m. values ++ m) (sym none)) h }
