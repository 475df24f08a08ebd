-- What mending makes is sound.
use Rattle.std.proofs.Common.{◌≡◌, ◌≢◌, ◌⊎◌, inl, inr, ℕ, zero, suc, ◌<◌, ◌≤◌, Bool, true, false, cond, List, [], ◌∷◌, length, refl, sym, ap, subst, ◌∙◌, arith}
use Rattle.std.specs.Prelude.{Option, None, Some, option_map, option_and_then, unwrap_or, map, Contains, AllPairs, is_some, nat_eq, nat_lt, ◌&&◌, ◌||◌}
use Rattle.std.specs.List.{list_all}
use Rattle.std.specs.Int.{w64, to_be_bytes}
use Rattle.std.specs.Ordering.{eq_by_cmp}
use Rattle.std.specs.declared.cmp.Ordering.TheVariants.{Less}
use Rattle.std.specs.FinMap.{find, entries_sorted, get-entries, get-retain_keys}
use Rattle.std.proofs.lemmas.Bool.{ltb-true, ltb-false, le-ltb, eqb-false, eqb-true, ne_eqb}
use Rattle.std.proofs.lemmas.Option.{none-some}
use Rattle.std.proofs.lemmas.List.{length-map, get_or-map}
use Rattle.list_lemmas.proofs.BoolTests.{is_equal, nat_eq-refl, same_Some}
use Rattle.list_lemmas.proofs.EntryLemmas.{sorted-rising}
use Rattle.list_lemmas.proofs.ListMembers.{here, there, split, not_in, pairs_in, pairs_tail}
use Rattle.list_lemmas.proofs.ListParts.{pairs_cons}
use Rattle.tsd_base.specs.Alphabet.{is_name}
use Rattle.tsd_base.specs.declared.kinds.Kind.{Kind}
use Rattle.tsd_base.specs.declared.kinds.Kind.TheVariants.{Metric, TagKey, TagValue}
use Rattle.row_key.specs.declared.keys.RowKey.{RowKey}
use Rattle.row_key.specs.declared.tables.Table.{Table}
use Rattle.row_key.specs.declared.tables.Table.TheVariants.{Ids, Names, Points}
use Rattle.cell_model.specs.declared.row.Row.{Row}
use Rattle.cell_model.specs.declared.row.ListLine.{ListLine}
use Rattle.cell_model.specs.declared.events.Place.{Place}
use Rattle.cell_model.specs.declared.events.Content.{Content}
use Rattle.cell_model.specs.PlaceOrder.{place_cmp}
use Rattle.cell_model.specs.KindWidths.{Widths, IsKindId, greatest, kind_bytes}
use Rattle.cell_model.specs.Store.{Store, entries, get, place_of, remove, same_bytes, written}
use Rattle.cell_model.specs.Machine.{counter_row, kind_qual}
use Rattle.cell_model.specs.IdRows.{id_row, name_in, name_row}
use Rattle.cell_model.specs.Counts.{line_of, lines_of}
use Rattle.cell_model.specs.Rising.{LinesRise, place_of_line}
use Rattle.cell_model.specs.Listed.{entry_of_line}
use Rattle.cell_model.proofs.CallerLemmas.{exact_places, same_or_not}
use Rattle.cell_listing.specs.ListedLines.{ListingRead}
use Rattle.listing_check.specs.UidCells.{UidCell, counter_by, counter_spelled, counter_with, forward_by, forward_with, id_spelled, kind_named, name_spelled, reverse_by, reverse_with, uid_in}
use Rattle.listing_check.specs.UidCells.UidCell.{Counter, Forward, Reverse}
use Rattle.listing_check.specs.Flaws.{FlawIn, FlawOf, NoFlaw, PointFlaw, all_named, counter_in, has_id, has_name, is_named, is_named_by, is_value, pair_named, uid_flaw, value_in}
use Rattle.listing_check.specs.declared.report.Flaw.{Flaw}
use Rattle.listing_check.specs.declared.report.Flaw.TheVariants.{AboveCounter, NoName}
use Rattle.listing_check.proofs.CallerLemmas.{counter_back, counter_read, each_stands, id_read, kind_back, no_name_zero, same_kind, there_is_value, value_same}
use Rattle.listing_fix.specs.Fixes.{Fixes, Sifted, counted_to, greater, greatest_of, in_order, is_points, kind_number, left_with, name_given, names_given, number_if, number_of, reads_at, uid_given, uid_of, with_counters, with_names, without_unread}
use Rattle.listing_fix.specs.Laws.{FixedIsSound}
use Rattle.listing_fix.proofs.NameFolds.{AllRead, Goes, IsEntry, forward_at, held, held_written, held_written_other, kind_in, number_in, reverse_at, says, settle, settled_names, tables_differ}

-- ---- the lines of a store

abbrev pub Before : ListLine → ListLine → Type 0
Before a b = place_cmp (place_of_line a) (place_of_line b) ≡ Less

pub lines_rise : (s : Store) → LinesRise (lines_of s)
lines_rise s = each (entries s) (sorted-rising place_cmp (entries s) (entries_sorted s.cells))
  where
    each : (es : List (Place × Content)) → AllPairs (λ (p q : Place × Content). place_cmp p.0 q.0 ≡ Less) es → LinesRise (map line_of es)
    each es up i j d lt within =
        let n = length-map es line_of in
        let e = entry_of_line d in
        let inside : j < length es = omega (arith, within, n) in
        (λ t. place_cmp (place_of_line (get_or-map line_of es i e d (omega (arith, lt, inside)) t)) (place_of_line (get_or-map line_of es j e d inside t))) ∙ up i j e lt inside

-- what is looked up among the lines of a store stands in it
pub find_told : (es : List (Place × Content)) (q : Place) → option_map (λ (c : Content). c.value) (find place_cmp q (map entry_of_line (map line_of es))) ≡ option_map (λ (c : Content). c.value) (find place_cmp q es)
find_told [] q = refl
find_told (e ∷ es) q = at (eq_by_cmp place_cmp q e.0) (find_told es q)
  where
    at : (b : Bool) → option_map (λ (c : Content). c.value) (find place_cmp q (map entry_of_line (map line_of es))) ≡ option_map (λ (c : Content). c.value) (find place_cmp q es)
        → option_map (λ (c : Content). c.value) (cond b (Some (record { value = e.1.value; version = 0 })) (find place_cmp q (map entry_of_line (map line_of es)))) ≡ option_map (λ (c : Content). c.value) (cond b (Some e.1) (find place_cmp q es))
    at true rest = refl
    at false rest = rest

pub value_held : (s : Store) (row : Row) (qual : List ℕ) → value_in (lines_of s) row qual ≡ held s (place_of row qual)
value_held s row qual = find_told (entries s) (place_of row qual) ∙ ap (option_map (λ (c : Content). c.value)) (sym (get-entries s.cells (place_of row qual)))

-- what stands in a store is one of its entries
pub find_entry : (es : List (Place × Content)) (p : Place) (c : Content) → find place_cmp p es ≡ Some c → IsEntry es p c.value
find_entry [] p c is = absurd (none-some c is)
find_entry (e ∷ es) p c is = at (eq_by_cmp place_cmp p e.0) refl is (find_entry es p c)
  where
    at : (b : Bool) → eq_by_cmp place_cmp p e.0 ≡ b → cond b (Some e.1) (find place_cmp p es) ≡ Some c → (find place_cmp p es ≡ Some c → IsEntry es p c.value) → IsEntry (e ∷ es) p c.value
    at true same is go = record { entry = e; among = here e es; place_is = sym (exact_places p e.0 (is_equal _ same)); value_is = (let w : e.1 ≡ c = cc in ap (λ (x : Content). x.value) w) }
    at false other is go = let x = go is in record { entry = x.entry; among = there e x.entry es x.among; place_is = x.place_is; value_is = x.value_is }

pub held_entry : (s : Store) (p : Place) (v : List ℕ) → held s p ≡ Some v → IsEntry (entries s) p v
held_entry s p v is = at (get s p) refl is
  where
    at : (o : Option Content) → get s p ≡ o → option_map (λ (c : Content). c.value) o ≡ Some v → IsEntry (entries s) p v
    at None e is = absurd (none-some v is)
    at (Some c) e is = let same : c.value ≡ v = cc in subst (IsEntry (entries s) p) same (find_entry (entries s) p c (sym (get-entries s.cells p) ∙ e))

-- ---- second: what doesn't read is dropped

pub kept_unread : (s : Store) (p : Place) → get (without_unread s) p ≡ cond (reads_at s.widths p (get s p)) (get s p) None
kept_unread s p = get-retain_keys s.cells (λ q. reads_at s.widths q (get s q)) p (λ x e. ap (λ (q : Place). reads_at s.widths q (get s q)) (sym (exact_places p x e)))

all_read : (s : Store) → AllRead (without_unread s)
all_read s p v pts there = at (get s p) (sym (ap (option_map (λ (c : Content). c.value)) (kept_unread s p)) ∙ there)
  where
    read : (c : Content) (u : Option UidCell) → uid_of s.widths p c ≡ u → option_map (λ (c : Content). c.value) (cond (is_some u) (Some c) None) ≡ Some v → (u : UidCell) × (says s.widths p v ≡ Some u)
    read c None is e = absurd (none-some v e)
    read c (Some u) is e = let same : c.value ≡ v = cc in (u, ap (says s.widths p) (sym same) ∙ is)

    at : (o : Option Content) → option_map (λ (c : Content). c.value) (cond (reads_at s.widths p o) o None) ≡ Some v → (u : UidCell) × (says s.widths p v ≡ Some u)
    at None e = absurd (none-some v e)
    at (Some c) e = read c (uid_of s.widths p c) refl (sym (ap (λ b. option_map (λ (c : Content). c.value) (cond (b || is_some (uid_of s.widths p c)) (Some c) None)) pts) ∙ e)

-- ---- third: names

named_goes : (s : Store) → AllRead s → Goes (with_names s) []
named_goes s reads = settle s (entries s) (record { reads = reads; settled = λ p v kind name id there f. inl (held_entry s p v there) })

pub given_widths : (s : Store) (u : Option UidCell) → (uid_given s u).widths ≡ s.widths
given_widths s None = refl
given_widths s (Some (Counter k n)) = refl
given_widths s (Some (Reverse k i m)) = refl
given_widths s (Some (Forward k m i)) = at (name_in s k i)
  where
    by : (b : Bool) → (cond b s (remove s (place_of (name_row m) (kind_qual k)))).widths ≡ s.widths
    by true = refl
    by false = refl

    at : (o : Option (List ℕ)) → (name_given s k m i o).widths ≡ s.widths
    at None = refl
    at (Some other) = by (same_bytes other m)

pub names_widths : (s : Store) (es : List (Place × Content)) → (names_given s es).widths ≡ s.widths
names_widths s [] = refl
names_widths s (e ∷ es) = names_widths (uid_given s (uid_of s.widths e.0 e.1)) es ∙ given_widths s (uid_of s.widths e.0 e.1)

-- ---- fourth: counters

pub number_same : (kind : Kind) (n : ℕ) → number_if kind kind n ≡ n
number_same kind n = ap (λ b. cond b n 0) (nat_eq-refl (kind_number kind))

pub greater_left : (m n : ℕ) → m ≤ greater m n
greater_left m n = at (nat_lt m n) refl
  where
    at : (b : Bool) → nat_lt m n ≡ b → m ≤ cond b n m
    at true e = let w = ltb-true m n e in omega (arith, w)
    at false e = omega arith

pub greater_right : (m n : ℕ) → n ≤ greater m n
greater_right m n = at (nat_lt m n) refl
  where
    at : (b : Bool) → nat_lt m n ≡ b → n ≤ cond b n m
    at true e = omega arith
    at false e = let w = ltb-false m n e in omega (arith, w)

pub greater_most : (m n k : ℕ) → m ≤ k → n ≤ k → greater m n ≤ k
greater_most m n k a b = at (nat_lt m n)
  where
    at : (c : Bool) → cond c n m ≤ k
    at true = b
    at false = a

pub counted : (w : Widths) (kind : Kind) (es : List (Place × Content)) (e : Place × Content) → Contains es e → number_of kind (uid_of w e.0 e.1) ≤ greatest_of w kind es
counted w kind [] e c = absurd (not_in e c)
counted w kind (f ∷ es) e c = elim (split f e es c) [
  | inl same ↦ subst (λ (x : Place × Content). number_of kind (uid_of w x.0 x.1) ≤ greatest_of w kind (f ∷ es)) same (greater_left (number_of kind (uid_of w f.0 f.1)) (greatest_of w kind es))
  | inr later ↦ (let low = counted w kind es e later in let up = greater_right (number_of kind (uid_of w f.0 f.1)) (greatest_of w kind es) in omega (arith, low, up))
]

-- the number of a cell is at most the greatest id of its kind
IsSmall : Widths → Option UidCell → Type 0
IsSmall w u = number_in u ≤ greatest w (kind_in u)

small_counter : (w : Widths) (k : Option Kind) (value : List ℕ) → IsSmall w (counter_by w k value)
unfolding IsSmall
small_counter w None value = omega arith
small_counter w (Some k) value = at (counter_spelled w k value) refl
  where
    at : (n : Option ℕ) → counter_spelled w k value ≡ n → IsSmall w (counter_with k n)
    at (Some n) read = (counter_read w k value n read).id.1
    at None read = omega arith

small_forward : (w : Widths) (k : Option Kind) (row value : List ℕ) → IsSmall w (forward_by w k row value)
unfolding IsSmall
small_forward w None row value = omega arith
small_forward w (Some k) row value = at (name_spelled row) (id_spelled w k value) refl
  where
    at : (m : Option (List ℕ)) (i : Option ℕ) → id_spelled w k value ≡ i → IsSmall w (forward_with k m i)
    at (Some m) (Some i) read = (id_read w k value i read).0.1
    at (Some m) None read = omega arith
    at None i read = omega arith

small_reverse : (w : Widths) (k : Option Kind) (row value : List ℕ) → IsSmall w (reverse_by w k row value)
unfolding IsSmall
small_reverse w None row value = omega arith
small_reverse w (Some k) row value = at (id_spelled w k row) (name_spelled value) refl
  where
    at : (i : Option ℕ) (m : Option (List ℕ)) → id_spelled w k row ≡ i → IsSmall w (reverse_with k i m)
    at (Some i) (Some m) read = (id_read w k row i read).0.1
    at (Some i) None read = omega arith
    at None m read = omega arith

number_small : (w : Widths) (t : Table) (row qual value : List ℕ) → IsSmall w (uid_in w t row qual value)
unfolding IsSmall
number_small w Ids row qual value = at (same_bytes row (0 ∷ []))
  where
    at : (b : Bool) → IsSmall w (cond b (counter_by w (kind_named qual) value) (forward_by w (kind_named qual) row value))
    at true = small_counter w (kind_named qual) value
    at false = small_forward w (kind_named qual) row value
number_small w Names row qual value = small_reverse w (kind_named qual) row value
number_small w Points row qual value = omega arith

pub kind_from : (k j : Kind) → kind_number k ≡ kind_number j → k ≡ j
kind_from Metric Metric e = refl
kind_from TagKey TagKey e = refl
kind_from TagValue TagValue e = refl
kind_from Metric TagKey e = absurd (omega (arith, e))
kind_from Metric TagValue e = absurd (omega (arith, e))
kind_from TagKey Metric e = absurd (omega (arith, e))
kind_from TagKey TagValue e = absurd (omega (arith, e))
kind_from TagValue Metric e = absurd (omega (arith, e))
kind_from TagValue TagKey e = absurd (omega (arith, e))

-- a number of another kind is none
pub if_below : (k j : Kind) (n m : ℕ) → (k ≡ j → n ≤ m) → number_if k j n ≤ m
if_below k j n m low = at (nat_eq (kind_number k) (kind_number j)) refl
  where
    at : (b : Bool) → nat_eq (kind_number k) (kind_number j) ≡ b → cond b n 0 ≤ m
    at true e = low (kind_from k j (eqb-true (kind_number k) (kind_number j) e))
    at false e = omega arith

of_most : (w : Widths) (kind : Kind) (u : Option UidCell) → IsSmall w u → number_of kind u ≤ greatest w kind
unfolding IsSmall
of_most w kind None small = omega arith
of_most w kind (Some (Counter other n)) small = if_below kind other n (greatest w kind) (λ same. subst (λ (j : Kind). n ≤ greatest w j) (sym same) small)
of_most w kind (Some (Forward other m i)) small = if_below kind other i (greatest w kind) (λ same. subst (λ (j : Kind). i ≤ greatest w j) (sym same) small)
of_most w kind (Some (Reverse other i m)) small = if_below kind other i (greatest w kind) (λ same. subst (λ (j : Kind). i ≤ greatest w j) (sym same) small)

greatest_most : (w : Widths) (kind : Kind) (es : List (Place × Content)) → greatest_of w kind es ≤ greatest w kind
greatest_most w kind [] = omega arith
greatest_most w kind (e ∷ es) =
    greater_most (number_of kind (uid_of w e.0 e.1)) (greatest_of w kind es) (greatest w kind) (of_most w kind (uid_of w e.0 e.1) (number_small w e.0.row.table e.0.row.bytes e.0.qual e.1.value)) (greatest_most w kind es)

-- where the counter of a kind stands
abbrev counter_place : Kind → Place
counter_place k = place_of counter_row (kind_qual k)

places_differ : (j k : Kind) → (kind_number j ≡ kind_number k → ⊥) → counter_place j ≢ counter_place k
places_differ j k ne e = ne (ap kind_number (same_kind j k (ap (λ (p : Place). p.qual) e)))

to_other : (k : Kind) (m : ℕ) (s : Store) (p : Place) → p ≢ counter_place k → held (counted_to k m s) p ≡ held s p
to_other k m s p ne = at (nat_eq m 0)
  where
    at : (b : Bool) → held (cond b s (written s counter_row (kind_qual k) (to_be_bytes w64 m) 0)) p ≡ held s p
    at true = refl
    at false = held_written_other s counter_row (kind_qual k) (to_be_bytes w64 m) p ne

to_here : (k : Kind) (m : ℕ) (s : Store) → held (counted_to k m s) (counter_place k) ≡ cond (nat_eq m 0) (held s (counter_place k)) (Some (to_be_bytes w64 m))
to_here k m s = at (nat_eq m 0)
  where
    at : (b : Bool) → held (cond b s (written s counter_row (kind_qual k) (to_be_bytes w64 m) 0)) (counter_place k) ≡ cond b (held s (counter_place k)) (Some (to_be_bytes w64 m))
    at true = refl
    at false = held_written s counter_row (kind_qual k) (to_be_bytes w64 m)

apart : (m n : ℕ) → nat_eq m n ≡ false → m ≡ n → ⊥
apart m n e = eqb-false m n e

module _ (s : Store) where
  abbrev most : Kind → ℕ
  most k = greatest_of s.widths k (entries s)

  abbrev one_counted : Store
  one_counted = counted_to Metric (most Metric) s

  abbrev two_counted : Store
  two_counted = counted_to TagKey (most TagKey) one_counted

  number_at : (k : Kind) → held (with_counters s) (counter_place k) ≡ cond (nat_eq (most k) 0) (held s (counter_place k)) (Some (to_be_bytes w64 (most k)))
  number_at Metric =
      to_other TagValue (most TagValue) two_counted (counter_place Metric) (places_differ Metric TagValue (λ e. absurd (omega (arith, e))))
      ∙ to_other TagKey (most TagKey) one_counted (counter_place Metric) (places_differ Metric TagKey (λ e. absurd (omega (arith, e))))
      ∙ to_here Metric (most Metric) s
  number_at TagKey =
      to_other TagValue (most TagValue) two_counted (counter_place TagKey) (places_differ TagKey TagValue (λ e. absurd (omega (arith, e))))
      ∙ to_here TagKey (most TagKey) one_counted
      ∙ ap (λ o. cond (nat_eq (most TagKey) 0) o (Some (to_be_bytes w64 (most TagKey)))) (to_other Metric (most Metric) s (counter_place TagKey) (places_differ TagKey Metric (λ e. absurd (omega (arith, e)))))
  number_at TagValue =
      to_here TagValue (most TagValue) two_counted
      ∙ ap (λ o. cond (nat_eq (most TagValue) 0) o (Some (to_be_bytes w64 (most TagValue))))
      (to_other TagKey (most TagKey) one_counted (counter_place TagValue) (places_differ TagValue TagKey (λ e. absurd (omega (arith, e))))
      ∙ to_other Metric (most Metric) s (counter_place TagValue) (places_differ TagValue Metric (λ e. absurd (omega (arith, e)))))

  left_alone : (p : Place) → ((k : Kind) → p ≢ counter_place k) → held (with_counters s) p ≡ held s p
  left_alone p ne = to_other TagValue (most TagValue) two_counted p (ne TagValue) ∙ to_other TagKey (most TagKey) one_counted p (ne TagKey) ∙ to_other Metric (most Metric) s p (ne Metric)

counter_or_not : (p : Place) → ((k : Kind) × (p ≡ counter_place k)) ⊎ ((k : Kind) → p ≢ counter_place k)
counter_or_not p = at (same_or_not p (counter_place Metric)) (same_or_not p (counter_place TagKey)) (same_or_not p (counter_place TagValue))
  where
    none : p ≢ counter_place Metric → p ≢ counter_place TagKey → p ≢ counter_place TagValue → (k : Kind) → p ≢ counter_place k
    none a b c Metric = a
    none a b c TagKey = b
    none a b c TagValue = c

    at : (p ≡ counter_place Metric) ⊎ (p ≢ counter_place Metric) → (p ≡ counter_place TagKey) ⊎ (p ≢ counter_place TagKey) → (p ≡ counter_place TagValue) ⊎ (p ≢ counter_place TagValue)
        → ((k : Kind) × (p ≡ counter_place k)) ⊎ ((k : Kind) → p ≢ counter_place k)
    at (inl a) b c = inl (Metric, a)
    at (inr a) (inl b) c = inl (TagKey, b)
    at (inr a) (inr b) (inl c) = inl (TagValue, c)
    at (inr a) (inr b) (inr c) = inr (none a b c)

-- a number that isn't 0 and not above the greatest id is one
id_from : (w : Widths) (kind : Kind) (n : ℕ) → (n ≡ 0 → ⊥) → n ≤ greatest w kind → IsKindId w kind n
id_from w kind n ne most = (positive n ne, most)
  where
    positive : (n : ℕ) → (n ≡ 0 → ⊥) → 1 ≤ n
    positive zero ne = absurd (ne refl)
    positive (suc n) ne = omega arith

module _ (s : Store) (g : Goes s []) where
  abbrev new : Store
  new = with_counters s

  abbrev cells : List ListLine
  cells = lines_of new

  counts_read : (p : Place) (v : List ℕ) → is_points p.row.table ≡ false → held new p ≡ Some v → (u : UidCell) × (says s.widths p v ≡ Some u)
  counts_read p v pts there = at (counter_or_not p)
    where
      at : ((k : Kind) × (p ≡ counter_place k)) ⊎ ((k : Kind) → p ≢ counter_place k) → (u : UidCell) × (says s.widths p v ≡ Some u)
      at (inr ne) = g.reads p v pts (sym (left_alone s p ne) ∙ there)
      at (inl w) = by (nat_eq (most s w.0) 0) refl (sym (ap (held new) w.1 ∙ number_at s w.0) ∙ there)
        where
          by : (b : Bool) → nat_eq (most s w.0) 0 ≡ b → cond b (held s (counter_place w.0)) (Some (to_be_bytes w64 (most s w.0))) ≡ Some v → (u : UidCell) × (says s.widths p v ≡ Some u)
          by true none is = g.reads p v pts (ap (held s) w.1 ∙ is)
          by false more is =
              let n = most s w.0 in
              let d = id_from s.widths w.0 n (apart n 0 more) (greatest_most s.widths w.0 (entries s)) in
              let value : to_be_bytes w64 n ≡ v = same_Some (to_be_bytes w64 n) v is in
              (Counter w.0 n, (λ t. says s.widths (w.1 t) (sym value t)) ∙ ap (λ j. counter_by s.widths j (to_be_bytes w64 n)) (kind_back w.0) ∙ ap (counter_with w.0) (counter_back s.widths w.0 n d))

  -- a number that stands for an id isn't above its kind's counter
  counter_at : (k : Kind) (n : ℕ) → IsKindId s.widths k n → n ≤ most s k → n ≤ counter_in s.widths cells k
  counter_at k n d low =
      let least = d.0 in
      let m = most s k in
      let is_counter : counter_in s.widths cells k ≡ m = (
      let nonzero : nat_eq m 0 ≡ false = ne_eqb m 0 (λ e. absurd (omega (arith, least, low, e))) in
      let id : IsKindId s.widths k m = (omega (arith, least, low), greatest_most s.widths k (entries s)) in
      ap (λ o. unwrap_or (option_and_then (counter_spelled s.widths k) o) 0) (value_held new counter_row (kind_qual k) ∙ number_at s k ∙ ap (λ b. cond b (held s (counter_place k)) (Some (to_be_bytes w64 m))) nonzero)
      ∙ ap (λ o. unwrap_or o 0) (counter_back s.widths k m id)) in
      omega (arith, low, is_counter)

  -- what stands beside the counters stood before, and is counted
  stood : (p : Place) (v : List ℕ) → ((k : Kind) → p ≢ counter_place k) → held new p ≡ Some v → held s p ≡ Some v
  stood p v ne there = sym (left_alone s p ne) ∙ there

  is_counted : (p : Place) (v : List ℕ) (k : Kind) → held s p ≡ Some v → number_of k (says s.widths p v) ≤ most s k
  is_counted p v k there =
      let x = held_entry s p v there in
      let same : uid_of s.widths x.entry.0 x.entry.1 ≡ says s.widths p v = (λ t. says s.widths (x.place_is t) (x.value_is t)) in
      subst (λ (u : Option UidCell). number_of k u ≤ most s k) same (counted s.widths k (entries s) x.entry x.among)

  id_below : (p : Place) (v : List ℕ) (k : Kind) (n : ℕ) → ((j : Kind) → p ≢ counter_place j) → held new p ≡ Some v → IsKindId s.widths k n → n ≤ number_of k (says s.widths p v) → nat_lt (counter_in s.widths cells k) n ≡ false
  id_below p v k n ne there d low =
      let a = is_counted p v k (stood p v ne there) in
      le-ltb (counter_in s.widths cells k) n (counter_at k n d (omega (arith, a, low)))

  no_counter : (p : Place) (row : List ℕ) → p.row.bytes ≡ row → row ≢ 0 ∷ [] → (k : Kind) → p ≢ counter_place k
  no_counter p row is ne k same = ne (sym is ∙ ap (λ (q : Place). q.row.bytes) same)

  not_names : (p : Place) → p.row.table ≡ Names → (k : Kind) → p ≢ counter_place k
  not_names p is k same = tables_differ (counter_place k) p refl is (sym same)

  free_forward : (p : Place) (v : List ℕ) (k : Kind) (m : List ℕ) (i : ℕ) → held new p ≡ Some v → says s.widths p v ≡ Some (Forward k m i) → None ≡ uid_flaw s.widths cells (Some (Forward k m i))
  free_forward p v k m i there is =
      let f = forward_at s.widths p.row.table p.row.bytes p.qual v k m i is in
      let ne = no_counter p m f.row_is (no_name_zero m f.is_name) in
      let number : i ≡ number_of k (says s.widths p v) = sym (ap (number_of k) is ∙ number_same k i) in
      let low = id_below p v k i ne there f.is_id (omega (arith, number)) in
      let named : name_in s k i ≡ Some m = settled_names s g p v k m i (stood p v ne there) is in
      let back : has_name s.widths cells k i m ≡ true = there_is_value m (value_in cells (id_row s.widths k i) (kind_qual k)) (value_held new (id_row s.widths k i) (kind_qual k) ∙ left_alone s (place_of (id_row s.widths k i) (kind_qual k)) (not_names (place_of (id_row s.widths k i) (kind_qual k)) refl) ∙ named) in
      sym (λ t. cond (low t) (Some AboveCounter) (cond (back t) None (Some NoName)))

  free_reverse : (p : Place) (v : List ℕ) (k : Kind) (i : ℕ) (m : List ℕ) → held new p ≡ Some v → says s.widths p v ≡ Some (Reverse k i m) → None ≡ uid_flaw s.widths cells (Some (Reverse k i m))
  free_reverse p v k i m there is =
      let r = reverse_at s.widths p.row.table p.row.bytes p.qual v k i m is in
      let number : i ≡ number_of k (says s.widths p v) = sym (ap (number_of k) is ∙ number_same k i) in
      let low = id_below p v k i (not_names p r.table_is) there r.is_id (omega (arith, number)) in
      sym (ap (λ b. cond b (Some AboveCounter) None) low)

  free_of : (p : Place) (v : List ℕ) (u : UidCell) → held new p ≡ Some v → says s.widths p v ≡ Some u → None ≡ uid_flaw s.widths cells (Some u)
  free_of p v (Counter k n) there is = refl
  free_of p v (Forward k m i) there is = free_forward p v k m i there is
  free_of p v (Reverse k i m) there is = free_reverse p v k i m there is

  -- no cell of ids or of names has a flaw
  uid_free : (p : Place) (v : List ℕ) → is_points p.row.table ≡ false → held new p ≡ Some v → None ≡ uid_flaw s.widths cells (says s.widths p v)
  uid_free p v pts there = let w = counts_read p v pts there in free_of p v w.0 there w.1 ∙ sym (ap (uid_flaw s.widths cells) w.1)

-- ---- fifth: what is left

module _ (w : Widths) (all : List ListLine) (r : ListLine) (rest left : List ListLine) (x : Sifted w all (r ∷ rest) left) where
  in_step : (l : ListLine) → Contains left l → (Contains x.2.0 l → Contains rest l × (is_points l.table ≡ true → FlawOf w all l None)) → Contains (r ∷ rest) l × (is_points l.table ≡ true → FlawOf w all l None)
  in_step l c go = at (is_points r.table) refl x.0 x.1 (subst (λ (ls : List ListLine). Contains ls l) x.2.1 c)
    where
      later : Contains x.2.0 l → Contains (r ∷ rest) l × (is_points l.table ≡ true → FlawOf w all l None)
      later c = let y = go c in (there r l rest y.0, y.1)

      first : (b : Bool) → is_points r.table ≡ b → (b ≡ true → FlawOf w all r None) → r ≡ l → Contains (r ∷ rest) l × (is_points l.table ≡ true → FlawOf w all l None)
      first b is free same = (subst (Contains (r ∷ rest)) same (here r rest), λ pts. subst (λ (y : ListLine). FlawOf w all y None) same (free (sym is ∙ ap (λ (y : ListLine). is_points y.table) same ∙ pts)))

      at : (b : Bool) → is_points r.table ≡ b → (f : Option Flaw) → FlawOf w all r f → Contains (left_with b f r x.2.0) l → Contains (r ∷ rest) l × (is_points l.table ≡ true → FlawOf w all l None)
      at true is (Some f) flaw c = later c
      at true is None flaw c = elim (split r l x.2.0 c) [ inl same ↦ first true is (λ e. flaw) same | inr more ↦ later more ]
      at false is f flaw c = elim (split r l x.2.0 c) [ inl same ↦ first false is (λ e. absurd cc) same | inr more ↦ later more ]

  rise_step : ((y : ListLine) → Contains x.2.0 y → Before r y) → LinesRise x.2.0 → LinesRise left
  rise_step below tail = subst LinesRise (sym x.2.1) (at (is_points r.table) x.0)
    where
      at : (b : Bool) (f : Option Flaw) → LinesRise (left_with b f r x.2.0)
      at true (Some f) = tail
      at true None = pairs_cons Before r x.2.0 below tail
      at false f = pairs_cons Before r x.2.0 below tail

  find_step : (p : Place) → is_points p.row.table ≡ false → find place_cmp p (map entry_of_line x.2.0) ≡ find place_cmp p (map entry_of_line rest) → find place_cmp p (map entry_of_line left) ≡ find place_cmp p (map entry_of_line (r ∷ rest))
  find_step p pts go = ap (λ (ls : List ListLine). find place_cmp p (map entry_of_line ls)) x.2.1 ∙ at (is_points r.table) refl x.0
    where
      next : find place_cmp p (map entry_of_line (r ∷ x.2.0)) ≡ find place_cmp p (map entry_of_line (r ∷ rest))
      next = ap (cond (eq_by_cmp place_cmp p (place_of_line r)) (Some (entry_of_line r).1)) go

      other : is_points r.table ≡ true → (b : Bool) → eq_by_cmp place_cmp p (place_of_line r) ≡ b → b ≡ false
      other is true e = let t : false ≡ true = sym pts ∙ ap (λ (q : Place). is_points q.row.table) (exact_places p (place_of_line r) (is_equal _ e)) ∙ is in absurd cc
      other is false e = refl

      passed : is_points r.table ≡ true → find place_cmp p (map entry_of_line rest) ≡ find place_cmp p (map entry_of_line (r ∷ rest))
      passed is = sym (ap (λ b. cond b (Some (entry_of_line r).1) (find place_cmp p (map entry_of_line rest))) (other is (eq_by_cmp place_cmp p (place_of_line r)) refl))

      at : (b : Bool) → is_points r.table ≡ b → (f : Option Flaw) → find place_cmp p (map entry_of_line (left_with b f r x.2.0)) ≡ find place_cmp p (map entry_of_line (r ∷ rest))
      at true is (Some f) = go ∙ passed is
      at true is None = next
      at false is f = next

module _ (w : Widths) (all : List ListLine) where
  sifted_in : (rest left : List ListLine) → Sifted w all rest left → (l : ListLine) → Contains left l → Contains rest l × (is_points l.table ≡ true → FlawOf w all l None)
  sifted_in [] left x l c = absurd (not_in l (subst (λ (ls : List ListLine). Contains ls l) x c))
  sifted_in (r ∷ rest) left x l c = in_step w all r rest left x l c (λ c. sifted_in rest x.2.0 x.2.2 l c)

  pub sifted_rise : (rest left : List ListLine) → Sifted w all rest left → LinesRise rest → LinesRise left
  sifted_rise [] left x up = subst LinesRise (sym x) up
  sifted_rise (r ∷ rest) left x up =
      rise_step w all r rest left x (λ y c. pairs_in Before r y rest up (sifted_in rest x.2.0 x.2.2 y c).0) (sifted_rise rest x.2.0 x.2.2 (pairs_tail Before r rest up))

  -- cells of ids and of names all stay
  sifted_find : (rest left : List ListLine) → Sifted w all rest left → (p : Place) → is_points p.row.table ≡ false → find place_cmp p (map entry_of_line left) ≡ find place_cmp p (map entry_of_line rest)
  sifted_find [] left x p pts = ap (λ (ls : List ListLine). find place_cmp p (map entry_of_line ls)) x
  sifted_find (r ∷ rest) left x p pts = find_step w all r rest left x p pts (sifted_find rest x.2.0 x.2.2 p pts)

-- ---- a flaw depends on cells of ids and of names alone

module _ (w : Widths) (a b : List ListLine) (agree : (row : Row) (qual : List ℕ) → is_points row.table ≡ false → value_in a row qual ≡ value_in b row qual) where
  counter_same : (k : Kind) → counter_in w a k ≡ counter_in w b k
  counter_same k = ap (λ o. unwrap_or (option_and_then (counter_spelled w k) o) 0) (agree counter_row (kind_qual k) refl)

  has_name_same : (k : Kind) (i : ℕ) (m : List ℕ) → has_name w a k i m ≡ has_name w b k i m
  has_name_same k i m = ap (is_value m) (agree (id_row w k i) (kind_qual k) refl)

  has_id_same : (k : Kind) (m : List ℕ) (i : ℕ) → has_id w a k m i ≡ has_id w b k m i
  has_id_same k m i = ap (is_value (kind_bytes w k i)) (agree (name_row m) (kind_qual k) refl)

  named_by_same : (k : Kind) (i : ℕ) (o : Option (List ℕ)) → is_named_by w a k i o ≡ is_named_by w b k i o
  named_by_same k i None = refl
  named_by_same k i (Some m) = ap (λ t. is_name m && t) (has_id_same k m i)

  named_same : (k : Kind) (i : ℕ) → is_named w a k i ≡ is_named w b k i
  named_same k i = named_by_same k i (value_in a (id_row w k i) (kind_qual k)) ∙ ap (is_named_by w b k i) (agree (id_row w k i) (kind_qual k) refl)

  pairs_same : (xs : List (ℕ × ℕ)) → list_all (pair_named w a) xs ≡ list_all (pair_named w b) xs
  pairs_same [] = refl
  pairs_same (x ∷ xs) = let rest = pairs_same xs in λ t. (named_same TagKey x.0 t && named_same TagValue x.1 t) && rest t

  all_named_same : (key : RowKey) → all_named w a key ≡ all_named w b key
  all_named_same key = λ t. named_same Metric key.metric t && pairs_same key.pairs.items t

  uid_flaw_same : (u : Option UidCell) → uid_flaw w a u ≡ uid_flaw w b u
  uid_flaw_same None = refl
  uid_flaw_same (Some (Counter k n)) = refl
  uid_flaw_same (Some (Forward k m i)) = λ t. cond (nat_lt (counter_same k t) i) (Some AboveCounter) (cond (has_name_same k i m t) None (Some NoName))
  uid_flaw_same (Some (Reverse k i m)) = λ t. cond (nat_lt (counter_same k t) i) (Some AboveCounter) None

  point_same : (row qual value : List ℕ) → PointFlaw w a row qual value None → PointFlaw w b row qual value None
  point_same row qual value f = (f.0, f.1, sym (all_named_same f.0) ∙ f.2, f.3)

  flaw_same : (t : Table) (row qual value : List ℕ) → FlawIn w a t row qual value None → FlawIn w b t row qual value None
  flaw_same Ids row qual value f = f ∙ uid_flaw_same (uid_in w Ids row qual value)
  flaw_same Names row qual value f = f ∙ uid_flaw_same (uid_in w Names row qual value)
  flaw_same Points row qual value f = point_same row qual value f

-- ---- the result

as_flaw : (w : Widths) (cells : List ListLine) (t : Table) (row qual value : List ℕ) → is_points t ≡ false → None ≡ uid_flaw w cells (uid_in w t row qual value) → FlawIn w cells t row qual value None
as_flaw w cells Ids row qual value pts e = e
as_flaw w cells Names row qual value pts e = e
as_flaw w cells Points row qual value pts e = absurd cc

module _ (r : ListingRead) (result : List ListLine) (x : Fixes r result) where
  abbrev w : Widths
  w = r.widths

  abbrev names : Store
  names = with_names (without_unread (in_order r))

  goes : Goes names []
  goes = named_goes (without_unread (in_order r)) (all_read (in_order r))

  -- no change is one of widths
  widths_stay : names.widths ≡ w
  widths_stay = names_widths (without_unread (in_order r)) (entries (without_unread (in_order r)))

  abbrev every : List ListLine
  every = lines_of (with_counters names)

  up : LinesRise every
  up = lines_rise (with_counters names)

  agree : (row : Row) (qual : List ℕ) → is_points row.table ≡ false → value_in every row qual ≡ value_in result row qual
  agree row qual pts = ap (option_map (λ (c : Content). c.value)) (sym (sifted_find w every every result x (place_of row qual) pts))

  line_held : (l : ListLine) → Contains every l → held (with_counters names) (place_of_line l) ≡ Some l.value
  line_held l c =
      let row : Row = record { table = l.table; bytes = l.row } in
      sym (value_held (with_counters names) row l.qual) ∙ sym (value_same w every row l.qual) ∙ each_stands w every l up c

  free : NoFlaw w result
  free l c = at (is_points l.table) refl (sifted_in w every every result x l c)
    where
      at : (b : Bool) → is_points l.table ≡ b → Contains every l × (is_points l.table ≡ true → FlawOf w every l None) → FlawOf w result l None
      at true pts y = flaw_same w every result agree l.table l.row l.qual l.value (y.1 pts)
      at false pts y =
          flaw_same w every result agree l.table l.row l.qual l.value
          (as_flaw w every l.table l.row l.qual l.value pts (subst (λ (v : Widths). None ≡ uid_flaw v every (says v (place_of_line l) l.value)) widths_stay (uid_free names goes (place_of_line l) l.value pts (line_held l y.0))))

  both : LinesRise result × NoFlaw w result
  both = (sifted_rise w every every result x up, free)

pub fixed_is_sound : FixedIsSound
fixed_is_sound r result x = both r result x
