-- The fourth change: the greatest number of a kind, and a cell that is written.
use Rattle.std.proofs.Common.{◌≡◌, ◌≢◌, ◌⊎◌, inl, inr, ℕ, ◌+◌, ◌<◌, ◌≤◌, Bool, true, false, cond, List, [], ◌∷◌, ◌++◌, length, take, drop, get_or, set, refl, sym, ap, subst, ◌∙◌, arith, zero, suc}
use Rattle.std.specs.Prelude.{Option, None, Some, Result, Ok, Err, OnOk, option_map, map, Contains, nat_eq, nat_lt}
use Rattle.std.specs.List.{insert}
use Rattle.std.specs.Int.{w64, to_be_bytes}
use Rattle.std.specs.Ordering.{ordering_reverse}
use Rattle.std.specs.declared.cmp.Ordering.TheVariants.{Less, Equal, Greater}
use Rattle.std.proofs.lemmas.Bool.{ltb-false}
use Rattle.std.proofs.lemmas.Bool.Decides.{nat_tests}
use Rattle.std.proofs.lemmas.List.{drop-set, drop_more, get_or-drop, get_or-take, length-drop, length-take, take-append-drop, take-set}
use Rattle.std.proofs.lemmas.List.Elements.{Contains-append_cases}
use Rattle.list_lemmas.proofs.ListMembers.{here, there, split, pairs_in, pairs_tail}
use Rattle.list_lemmas.proofs.ListParts.{pairs_cons, pairs_front}
use Rattle.tsd_base.specs.declared.kinds.Kind.{Kind}
use Rattle.tsd_base.specs.declared.kinds.Kind.TheVariants.{Metric, TagKey, TagValue}
use Rattle.cell_model.specs.declared.row.ListLine.{ListLine}
use Rattle.cell_model.specs.declared.events.Place.{Place}
use Rattle.cell_model.specs.declared.events.Content.{Content}
use Rattle.cell_model.specs.KindWidths.{Widths}
use Rattle.cell_model.specs.PlaceOrder.{place_cmp}
use Rattle.cell_model.specs.Store.{Store, entries, place_of, written}
use Rattle.cell_model.specs.Machine.{counter_row, kind_qual}
use Rattle.cell_model.specs.Counts.{line_of, lines_of}
use Rattle.cell_model.specs.Rising.{LinesRise, place_of_line}
use Rattle.cell_model.proofs.CallerLemmas.{exact_places, places_total, same_or_not}
use Rattle.listing_check.specs.UidCells.{UidCell, uid_cell}
use Rattle.listing_check.specs.UidCells.UidCell.{Counter, Forward, Reverse}
use Rattle.listing_check.proofs.CallerLemmas.{none_found}
use Rattle.listing_fix.specs.Fixes.{counted_to, greater, greatest_of, number_of, uid_of, with_counters}
use Rattle.listing_fix.specs.Steps.{IsPlaceIn, Writes, counter_line, greatest_in, plain_number, without_name}
use Rattle.listing_fix.proofs.NameFolds.{held, held_written, held_written_other}
use Rattle.listing_fix.proofs.Mending.{Before, greater_left, greater_most, greater_right}
use Rattle.listing_fix.proofs.Told.{first_of, lines_by, seen, seen_here, seen_held, seen_join, seen_past}

-- ---- the greatest number

pub same_number : (kind : Kind) (u : Option UidCell) → plain_number kind (without_name u) ≡ number_of kind u
same_number kind None = refl
same_number kind (Some (Counter k n)) = refl
same_number kind (Some (Forward k m i)) = refl
same_number kind (Some (Reverse k i m)) = refl

greater_zero : (n : ℕ) → greater 0 n ≡ n
greater_zero n = at (nat_lt 0 n) refl
  where
    at : (b : Bool) → nat_lt 0 n ≡ b → cond b n 0 ≡ n
    at true e = refl
    at false e = let low = ltb-false 0 n e in omega (arith, low)

apart : (x y : ℕ) → x ≤ y → y ≤ x → x ≡ y
apart x y p q = omega (arith, p, q)

under : (x y z : ℕ) → x ≤ y → y ≤ z → x ≤ z
under x y z p q = omega (arith, p, q)

greater_greater : (a b c : ℕ) → greater (greater a b) c ≡ greater a (greater b c)
greater_greater a b c =
    apart (greater (greater a b) c) (greater a (greater b c))
    (greater_most (greater a b) c (greater a (greater b c))
    (greater_most a b (greater a (greater b c)) (greater_left a (greater b c)) (under b (greater b c) (greater a (greater b c)) (greater_left b c) (greater_right a (greater b c))))
    (under c (greater b c) (greater a (greater b c)) (greater_right b c) (greater_right a (greater b c))))
    (greater_most a (greater b c) (greater (greater a b) c) (under a (greater a b) (greater (greater a b) c) (greater_left a b) (greater_left (greater a b) c))
    (greater_most b c (greater (greater a b) c) (under b (greater a b) (greater (greater a b) c) (greater_right a b) (greater_left (greater a b) c)) (greater_right (greater a b) c)))

-- so far this is the greatest
abbrev pub IsMost : Widths → Kind → List ListLine → ℕ → ℕ → Type 0
IsMost w kind cells at most = greatest_in w kind cells ≡ greater most (greatest_in w kind (drop at cells))

pub none_yet : (w : Widths) (kind : Kind) (cells : List ListLine) → IsMost w kind cells 0 0
none_yet w kind cells = sym (greater_zero (greatest_in w kind cells))

pub one_greater : (w : Widths) (kind : Kind) (cells : List ListLine) (at : ℕ) (c : ListLine) (old number new : ℕ) → at < length cells → c ≡ get_or cells at c → IsMost w kind cells at old
    → number ≡ plain_number kind (without_name (uid_cell w c)) → new ≡ greater old number → IsMost w kind cells (at + 1) new
one_greater w kind cells at c old number new within is before says e =
    before ∙ ap (λ (ls : List ListLine). greater old (greatest_in w kind ls)) (drop_more cells at c within ∙ (λ t. sym is t ∷ drop (at + 1) cells))
    ∙ sym (greater_greater old (number_of kind (uid_cell w c)) (greatest_in w kind (drop (at + 1) cells)))
    ∙ ap (λ n. greater n (greatest_in w kind (drop (at + 1) cells))) (sym (e ∙ ap (greater old) (says ∙ same_number kind (uid_cell w c))))

greatest_lines : (w : Widths) (kind : Kind) (es : List (Place × Content)) → greatest_in w kind (map line_of es) ≡ greatest_of w kind es
greatest_lines w kind [] = refl
greatest_lines w kind (e ∷ es) = ap (greater (number_of kind (uid_of w e.0 e.1))) (greatest_lines w kind es)

-- ---- one cell between others

between_rise : (front : List ListLine) (l : ListLine) (back : List ListLine) → LinesRise front → LinesRise back → ((m : ListLine) → Contains front m → Before m l) → ((m : ListLine) → Contains back m → Before l m) → LinesRise (front ++ l ∷ back)
between_rise [] l back up vp low high = pairs_cons Before l back high vp
between_rise (x ∷ front) l back up vp low high =
    pairs_cons Before x (front ++ l ∷ back) (λ m c. each m (Contains-append_cases front (l ∷ back) m c)) (between_rise front l back (pairs_tail Before x front up) vp (λ m c. low m (there x m front c)) high)
  where
    own : Before x l
    own = low x (here x front)

    later : (m : ListLine) → (l ≡ m) ⊎ Contains back m → Before x m
    later m (inl same) = subst (Before x) same own
    later m (inr c) = places_total.trans (place_of_line x) (place_of_line l) (place_of_line m) own (high m c)

    each : (m : ListLine) → Contains front m ⊎ Contains (l ∷ back) m → Before x m
    each m (inl c) = pairs_in Before x m front up c
    each m (inr c) = later m (split l m back c)

module _ (old : List ListLine) (at from : ℕ) (l : ListLine) (up : LinesRise old)
    (before : (k : ℕ) (d : ListLine) → k < at → k < length old → place_cmp (place_of_line (get_or old k d)) (place_of_line l) ≡ Less)
    (behind : (k : ℕ) (d : ListLine) → from ≤ k → k < length old → place_cmp (place_of_line l) (place_of_line (get_or old k d)) ≡ Less) where
  low : (m : ListLine) → Contains (take at old) m → Before m l
  low m c =
      let long = length-take at old in
      let within = c.1 in
      let lt : c.0 < at = omega (arith, long, within) in
      subst (λ (x : ListLine). Before x l) (sym (get_or-take at old c.0 m lt) ∙ c.2) (before c.0 m lt (omega (arith, long, within)))

  high : (m : ListLine) → Contains (drop from old) m → Before l m
  high m c =
      let long = length-drop from old in
      let within = c.1 in
      subst (Before l) (sym (get_or-drop from old c.0 m) ∙ c.2) (behind (from + c.0) m (omega arith) (omega (arith, long, within)))

  back_rise : LinesRise (drop from old)
  back_rise i j d lt within =
      let long = length-drop from old in
      (λ t. place_cmp (place_of_line (get_or-drop from old i d t)) (place_of_line (get_or-drop from old j d t))) ∙ up (from + i) (from + j) d (omega (arith, lt)) (omega (arith, long, within))

  pub rises : LinesRise (take at old ++ l ∷ drop from old)
  rises = between_rise (take at old) l (drop from old) (pairs_front Before (take at old) (drop at old) (subst LinesRise (sym (take-append-drop at old)) up)) back_rise low high

  pub seen_there : seen (take at old ++ l ∷ drop from old) (place_of_line l) ≡ Some l.value
  seen_there =
      seen_join (take at old) (l ∷ drop from old) (place_of_line l)
      ∙ (λ t. first_of (none t) (seen_here l (drop from old) (place_of_line l) refl t))
    where
      none : seen (take at old) (place_of_line l) ≡ None
      none = ap (option_map (λ (c : Content). c.value)) (none_found (place_of_line l) (take at old) (λ m c same. differ m (low m c) same))
        where
          differ : (m : ListLine) → Before m l → place_cmp (place_of_line m) (place_of_line l) ≡ Equal → ⊥
          differ m lt same = let w : Less ≡ Equal = sym lt ∙ same in absurd cc

  pub seen_elsewhere : (p : Place) → p ≢ place_of_line l → seen (take at old ++ l ∷ drop from old) p ≡ seen (take at old ++ drop from old) p
  seen_elsewhere p ne =
      seen_join (take at old) (l ∷ drop from old) p ∙ ap (first_of (seen (take at old) p)) (seen_past l (drop from old) p ne) ∙ sym (seen_join (take at old) (drop from old) p)

-- ---- one cell written

turned : (p q : Place) → place_cmp p q ≡ Greater → place_cmp q p ≡ Less
turned p q e = places_total.antisymm q p ∙ ap ordering_reverse e

pub inserted : (old new : List ListLine) (at : ℕ) (l : ListLine) → LinesRise old → IsPlaceIn old (place_of_line l) (Err at) → new ≡ insert old at l → Writes l old new
inserted old new at l up place is =
    subst (Writes l old) (sym is) (record {
      rising = rises old at at l up before behind;
      here = seen_there old at at l up before behind;
      other = λ p ne. seen_elsewhere old at at l up before behind p ne ∙ ap (λ (ls : List ListLine). seen ls p) (take-append-drop at old);
    })
  where
    before : (k : ℕ) (d : ListLine) → k < at → k < length old → place_cmp (place_of_line (get_or old k d)) (place_of_line l) ≡ Less
    before k d lt within = place.1 k d (omega arith) lt

    behind : (k : ℕ) (d : ListLine) → at ≤ k → k < length old → place_cmp (place_of_line l) (place_of_line (get_or old k d)) ≡ Less
    behind k d le within = turned (place_of_line (get_or old k d)) (place_of_line l) (place.2 k d le within)

pub replaced : (old new : List ListLine) (at : ℕ) (l : ListLine) → LinesRise old → IsPlaceIn old (place_of_line l) (Ok at) → new ≡ set old at l → Writes l old new
replaced old new at l up place is =
    subst (Writes l old) (sym (is ∙ parts)) (record {
      rising = rises old at (at + 1) l up before behind;
      here = seen_there old at (at + 1) l up before behind;
      other = λ p ne. seen_elsewhere old at (at + 1) l up before behind p ne ∙ sym (elsewhere p ne);
    })
  where
    parts : set old at l ≡ take at old ++ l ∷ drop (at + 1) old
    parts = sym (take-append-drop at (set old at l)) ∙ (λ t. take-set old at l t ++ drop-set old at l place.0 t)

    here_is : (d : ListLine) → place_of_line (get_or old at d) ≡ place_of_line l
    here_is d = exact_places (place_of_line (get_or old at d)) (place_of_line l) (place.1 d)

    before : (k : ℕ) (d : ListLine) → k < at → k < length old → place_cmp (place_of_line (get_or old k d)) (place_of_line l) ≡ Less
    before k d lt within = ap (place_cmp (place_of_line (get_or old k d))) (sym (here_is d)) ∙ up k at d lt place.0

    behind : (k : ℕ) (d : ListLine) → at + 1 ≤ k → k < length old → place_cmp (place_of_line l) (place_of_line (get_or old k d)) ≡ Less
    behind k d le within = ap (λ p. place_cmp p (place_of_line (get_or old k d))) (sym (here_is d)) ∙ up at k d (omega (arith, le)) within

    old_parts : old ≡ take at old ++ get_or old at l ∷ drop (at + 1) old
    old_parts = sym (take-append-drop at old) ∙ ap (λ (ls : List ListLine). take at old ++ ls) (drop_more old at l place.0)

    elsewhere : (p : Place) → p ≢ place_of_line l → seen old p ≡ seen (take at old ++ drop (at + 1) old) p
    elsewhere p ne =
        ap (λ (ls : List ListLine). seen ls p) old_parts ∙ seen_join (take at old) (get_or old at l ∷ drop (at + 1) old) p
        ∙ ap (first_of (seen (take at old) p)) (seen_past (get_or old at l) (drop (at + 1) old) p (λ e. ne (e ∙ here_is l))) ∙ sym (seen_join (take at old) (drop (at + 1) old) p)

-- ---- one counter

counted_write : (kind : Kind) (n : ℕ) (s : Store) (xs new : List ListLine) → xs ≡ lines_of s → nat_eq n 0 ≡ false → Writes (counter_line kind n) xs new → new ≡ lines_of (counted_to kind n s)
counted_write kind n s xs new is some x =
    lines_by (written s counter_row (kind_qual kind) (to_be_bytes w64 n) 0) new x.rising each ∙ sym (ap (λ b. lines_of (cond b s (written s counter_row (kind_qual kind) (to_be_bytes w64 n) 0))) some)
  where
    at : (p : Place) → (p ≡ place_of counter_row (kind_qual kind)) ⊎ (p ≢ place_of counter_row (kind_qual kind)) → seen new p ≡ held (written s counter_row (kind_qual kind) (to_be_bytes w64 n) 0) p
    at p (inl same) = ap (seen new) same ∙ x.here ∙ sym (ap (held (written s counter_row (kind_qual kind) (to_be_bytes w64 n) 0)) same ∙ held_written s counter_row (kind_qual kind) (to_be_bytes w64 n))
    at p (inr ne) = x.other p ne ∙ ap (λ (ls : List ListLine). seen ls p) is ∙ seen_held s p ∙ sym (held_written_other s counter_row (kind_qual kind) (to_be_bytes w64 n) p ne)

    each : (p : Place) → seen new p ≡ held (written s counter_row (kind_qual kind) (to_be_bytes w64 n) 0) p
    each p = at p (same_or_not p (place_of counter_row (kind_qual kind)))

not_none : (n : ℕ) → (n ≡ 0 → ⊥) → nat_eq n 0 ≡ false
not_none zero ne = absurd (ne refl)
not_none (suc n) ne = grind (arith, nat_tests)

pub counted_ok : {T E : Type 0} (r : Result T E) (kind : Kind) (n : ℕ) (xs new : List ListLine) (line : ListLine) → (n ≡ 0 → ⊥) → line ≡ counter_line kind n → OnOk r (Writes line xs new)
    → OnOk r ((s : Store) → xs ≡ lines_of s → new ≡ lines_of (counted_to kind n s))
counted_ok (Ok x) kind n xs new line some same e = λ s is. counted_write kind n s xs new is (not_none n some) (subst (λ (l : ListLine). Writes l xs new) same e)
counted_ok (Err x) kind n xs new line some same e = e

-- ---- all three

pub all_counted : (w : Widths) (m k v : ℕ) (xs a b new : List ListLine) → m ≡ greatest_in w Metric xs → k ≡ greatest_in w TagKey xs → v ≡ greatest_in w TagValue xs
    → ((s : Store) → xs ≡ lines_of s → a ≡ lines_of (counted_to Metric m s)) → ((s : Store) → a ≡ lines_of s → b ≡ lines_of (counted_to TagKey k s)) → ((s : Store) → b ≡ lines_of s → new ≡ lines_of (counted_to TagValue v s))
    → (s : Store) → s.widths ≡ w → xs ≡ lines_of s → new ≡ lines_of (with_counters s)
all_counted w m k v xs a b new ms ks vs first second third s width is =
    third (counted_to TagKey k (counted_to Metric m s)) (second (counted_to Metric m s) (first s is))
    ∙ (λ t. lines_of (counted_to TagValue (number TagValue v vs t) (counted_to TagKey (number TagKey k ks t) (counted_to Metric (number Metric m ms t) s))))
  where
    number : (kind : Kind) (n : ℕ) → n ≡ greatest_in w kind xs → n ≡ greatest_of s.widths kind (entries s)
    number kind n e = e ∙ ap (greatest_in w kind) is ∙ greatest_lines w kind (entries s) ∙ ap (λ (x : Widths). greatest_of x kind (entries s)) (sym width)
