-- The cursors of a bundle, one after another.
use Rattle.std.proofs.Common.{◌≡◌, ℕ, zero, suc, ◌+◌, ◌<◌, ℤ, Bool, List, [], ◌∷◌, ◌++◌, length, take, drop, set, get_or, Option, None, Some, refl, sym, ap, subst, ◌∙◌, All, append_assoc, append-nil, length-append, add-one, arith}
use Rattle.std.specs.List.{AllWithin, filter_map}
use Rattle.std.proofs.lemmas.List.{take_more, take_all, length-take-le, map-append, length-map, get_or-map, get_or-drop, length-drop, length-set, get_or-set_other}
use Rattle.std.proofs.lemmas.List.Elements.{filter_map-append, All-push, AllWithin-more_set, AllWithin-from_all, All-from_all_within, All-nil}
use Rattle.std.proofs.Math.Seq.{take-suc-set}
use Rattle.lerp_aggregate.specs.declared.cursors.Cursor.{Cursor}
use Rattle.lerp_aggregate.specs.declared.tally.Tally.{Tally}
use Rattle.lerp_aggregate.specs.Aggregation.{given_at}
use Rattle.lerp_aggregate.specs.Tally.{Counts, Adds, HasRoom}
use Rattle.lerp_aggregate.specs.Walks.{earlier, earliest, series_of, Stands}
use Rattle.lerp_aggregate.proofs.Walking.{length-filter_map}

earlier-none : (o : Option ℕ) → earlier o None ≡ o
earlier-none None = refl
earlier-none (Some a) = refl

earlier_assoc : (a b c : Option ℕ) → earlier a (earlier b c) ≡ earlier (earlier a b) c
earlier_assoc None b c = refl
earlier_assoc (Some a) None c = refl
earlier_assoc (Some a) (Some b) None = refl
earlier_assoc (Some a) (Some b) (Some c) = ap Some (omega arith)

-- one more cursor at the end
earliest-push : (cs : List Cursor) (c : Cursor) → earliest (cs ++ c ∷ []) ≡ earlier (earliest cs) c.next
earliest-push [] c = earlier-none c.next
earliest-push (x ∷ cs) c = ap (earlier x.next) (earliest-push cs c) ∙ earlier_assoc x.next (earliest cs) c.next

-- a bundle that is made cursor by cursor
pub record Made (list : List (List (ℕ × ℤ))) (first n : ℕ) (cs : List Cursor) (soonest : Option ℕ) : Type 0 where
  pub series : series_of list cs ≡ take n (drop first list)
  pub stand : All (Stands list 0) cs
  pub next : soonest ≡ earliest cs

pub made_none : (list : List (List (ℕ × ℤ))) (first n : ℕ) (cs : List Cursor) (next : Option ℕ) → n ≡ 0 → cs ≡ [] → next ≡ None → Made list first n cs next
made_none list first n cs next zero_ none next_is = record {
  series = ap (series_of list) none ∙ ap (λ k. take k (drop first list)) (sym zero_);
  stand = subst (All (Stands list 0)) (sym none) (All-nil (Stands list 0));
  next = next_is ∙ ap earliest (sym none);
}

pub made_more : (list : List (List (ℕ × ℤ))) (first n m : ℕ) (cs new : List Cursor) (c : Cursor) (next left : Option ℕ) → Made list first n cs next → m ≡ n + 1 → first + n < length list → c.index ≡ first + n → Stands list 0 c → new ≡ cs ++ c ∷ [] → left ≡ earlier next c.next → Made list first m new left
made_more list first n m cs new c next left made count inside index stand new_is left_is = record {
  series = ap (series_of list) new_is ∙ map-append (λ cursor. get_or list cursor.index []) cs (c ∷ []) ∙ (λ i. made.series i ++ at i ∷ []) ∙ sym (take_more (drop first list) n [] (omega (arith, length-drop first list, inside))) ∙ ap (λ k. take k (drop first list)) (sym count);
  stand = subst (All (Stands list 0)) (sym new_is) (All-push (Stands list 0) cs c made.stand stand);
  next = left_is ∙ ap (λ o. earlier o c.next) made.next ∙ sym (earliest-push cs c) ∙ ap earliest (sym new_is);
} where
  at : get_or list c.index [] ≡ get_or (drop first list) n []
  at = ap (λ k. get_or list k []) index ∙ sym (get_or-drop first list n [])

-- a cursor that stays over its series
series-set : (list : List (List (ℕ × ℤ))) (cs : List Cursor) (i : ℕ) (c d : Cursor) → i < length cs → c.index ≡ (get_or cs i d).index → series_of list (set cs i c) ≡ series_of list cs
series-set list [] i c d inside same = absurd (omega arith)
series-set list (x ∷ cs) zero c d inside same = ap (λ k. get_or list k [] ∷ series_of list cs) same
series-set list (x ∷ cs) (suc i) c d inside same = ap (λ l. get_or list x.index [] ∷ l) (series-set list cs i c d (omega arith) same)

-- the first i cursors of a bundle are turned
pub record Turned (list : List (List (ℕ × ℤ))) (b : Bool) (time : ℕ) (start : List Cursor) (old : Tally) (i : ℕ) (cs : List Cursor) (tally : Tally) (soonest : Option ℕ) : Type 0 where
  pub series : series_of list cs ≡ series_of list start
  pub done : AllWithin (Stands list (time + 1)) cs 0 i
  pub left : AllWithin (Stands list time) cs i (length cs)
  pub adds : Adds old tally (filter_map (λ s. given_at b s time) (take i (series_of list start)))
  pub next : soonest ≡ earliest (take i cs)

module _ (list : List (List (ℕ × ℤ))) (b : Bool) (time : ℕ) (start : List Cursor) (old : Tally) where
  pub turned_none : (cs : List Cursor) (tally : Tally) (soonest : Option ℕ) → All (Stands list time) start → cs ≡ start → tally ≡ old → soonest ≡ None → Turned list b time start old 0 cs tally soonest
  turned_none cs tally soonest stand cs_is tally_is soonest_is = record {
    series = ap (series_of list) cs_is;
    done = λ k d low high. absurd (omega (arith, high));
    left = subst (λ l. AllWithin (Stands list time) l 0 (length l)) (sym cs_is) (AllWithin-from_all (Stands list time) start stand);
    adds = subst (λ t. Adds old t []) (sym tally_is) (record { adds = λ values h. subst (Counts old) (sym (append-nil values)) h });
    next = soonest_is;
  }

  module _ (i : ℕ) (cs : List Cursor) (tally : Tally) (next : Option ℕ) (turned : Turned list b time start old i cs tally next) where
    -- there is room for the next value
    pub room_for_next : HasRoom old (length start) → i < length cs → HasRoom tally 1
    room_for_next room below =
        let same = ap length turned.series in
        let counted = length-map start (λ (cursor : Cursor). get_or list cursor.index []) in
        let counted_too = length-map cs (λ (cursor : Cursor). get_or list cursor.index []) in
        let inside : i < length start = omega (arith, same, counted, counted_too, below) in
        let given = filter_map (λ (s : List (ℕ × ℤ)). given_at b s time) (take i (series_of list start)) in
        let few = length-filter_map (λ (s : List (ℕ × ℤ)). given_at b s time) (take i (series_of list start)) in
        let count = length-take-le i (series_of list start) (let same = length-map start (λ (cursor : Cursor). get_or list cursor.index []) in omega (arith, same, inside)) in
        let small = room.few in
        record {
          values = room.values ++ given;
          counts = turned.adds.adds room.values room.counts;
          few = omega (arith, few, count, small, inside, length-append room.values given);
        }

    -- one more cursor is turned
    pub turned_more : (c d : Cursor) (new : Tally) (left last : Option ℕ) → i < length cs → c.index ≡ (get_or cs i d).index → Stands list (time + 1) c
        → Adds tally new (filter_map (λ s. given_at b s time) (get_or list (get_or cs i d).index [] ∷ [])) → left ≡ c.next → last ≡ earlier next left
        → Turned list b time start old (i + 1) (set cs i c) new last
    turned_more c d new left last inside index stand adds left_is last_is = record {
      series = series-set list cs i c d inside index ∙ turned.series;
      done = AllWithin-more_set cs i c inside (Stands list (time + 1)) turned.done stand;
      left = λ k e low high. subst (Stands list time) (sym (get_or-set_other cs i k c e (λ same. omega (arith, same, low)))) (turned.left k e (omega (arith, low)) (omega (arith, high, length-set cs i c)));
      adds = record { adds = λ values h. subst (Counts new) (append_assoc values _ _ ∙ ap (λ more. values ++ more) (sym (filter_map-append (λ s. given_at b s time) (take i (series_of list start)) (get_or list (get_or cs i d).index [] ∷ [])) ∙ ap (filter_map (λ s. given_at b s time)) more_series)) (adds.adds _ (turned.adds.adds values h)) };
      next = last_is ∙ (λ k. earlier (turned.next k) (left_is k)) ∙ sym (earliest-push (take i cs) c) ∙ ap earliest (sym (ap (λ k. take k (set cs i c)) (add-one i) ∙ take-suc-set cs i c inside));
    } where
      more_series : take i (series_of list start) ++ get_or list (get_or cs i d).index [] ∷ [] ≡ take (i + 1) (series_of list start)
      more_series =
          let at : get_or (series_of list start) i [] ≡ get_or list (get_or cs i d).index [] = sym (ap (λ l. get_or l i []) turned.series) ∙ get_or-map (λ cursor. get_or list cursor.index []) cs i d [] inside in
          ap (λ s. take i (series_of list start) ++ s ∷ []) (sym at) ∙ sym (take_more (series_of list start) i [] (let same = ap length turned.series in let count = length-map cs (λ (cursor : Cursor). get_or list cursor.index []) in omega (arith, same, count, inside)))

    -- all are
    pub turned_all : i ≡ length cs → All (Stands list (time + 1)) cs × Adds old tally (filter_map (λ s. given_at b s time) (series_of list start)) × (next ≡ earliest cs)
    turned_all all =
        let count : length (series_of list start) ≡ length cs = sym (ap length turned.series) ∙ length-map cs (λ (cursor : Cursor). get_or list cursor.index []) in (
          All-from_all_within (Stands list (time + 1)) cs (subst (AllWithin (Stands list (time + 1)) cs 0) all turned.done),
          subst (λ l. Adds old tally (filter_map (λ s. given_at b s time) l)) (take_all i (series_of list start) (omega (arith, count, all))) turned.adds,
          turned.next ∙ ap earliest (take_all i cs (omega (arith, all))),
        )
