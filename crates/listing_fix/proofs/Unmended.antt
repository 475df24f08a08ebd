-- Of a sound listing mending makes nothing else.
use Rattle.std.proofs.Common.{◌≡◌, ◌⊎◌, inl, inr, ℕ, ◌≤◌, Bool, true, false, cond, List, [], ◌∷◌, refl, sym, ap, subst, ◌∙◌, arith}
use Rattle.std.specs.Prelude.{Option, None, Some, option_map, option_and_then, unwrap_or, map, Contains, is_some, nat_eq, nat_lt, ◌||◌}
use Rattle.std.specs.Int.{w64, to_be_bytes}
use Rattle.std.specs.Ordering.{eq_by_cmp}
use Rattle.std.specs.FinMap.{entries_sorted, get-entries, get-from_entries, get-insert, same_map}
use Rattle.std.specs.FinMap.Entries.{same_entries}
use Rattle.std.proofs.lemmas.Bool.{ltb-false}
use Rattle.list_lemmas.proofs.BoolTests.{is_equal, not_Some}
use Rattle.list_lemmas.proofs.EntryLemmas.{sorted_from_rising}
use Rattle.list_lemmas.proofs.ListMembers.{here, there, map_in}
use Rattle.tsd_base.specs.declared.kinds.Kind.{Kind}
use Rattle.tsd_base.specs.declared.kinds.Kind.TheVariants.{Metric, TagKey, TagValue}
use Rattle.row_key.proofs.CallerLemmas.{one_key}
use Rattle.row_key.specs.declared.tables.Table.{Table}
use Rattle.row_key.specs.declared.tables.Table.TheVariants.{Ids, Names, Points}
use Rattle.cell_model.specs.declared.row.ListLine.{ListLine}
use Rattle.cell_model.specs.declared.events.Place.{Place}
use Rattle.cell_model.specs.declared.events.Content.{Content}
use Rattle.cell_model.specs.PlaceOrder.{place_cmp}
use Rattle.cell_model.specs.KindWidths.{Widths}
use Rattle.cell_model.specs.Store.{Store, StoreCells, entries, get, place_of, remove, written}
use Rattle.cell_model.specs.Machine.{counter_row, kind_qual}
use Rattle.cell_model.specs.IdRows.{id_row, name_in, name_row}
use Rattle.cell_model.specs.Counts.{line_of, lines_of}
use Rattle.cell_model.specs.Rising.{LinesRise}
use Rattle.cell_model.specs.Listed.{entry_of_line}
use Rattle.cell_model.proofs.CallerLemmas.{places_total, exact_places}
use Rattle.cell_listing.specs.ListedLines.{ListingRead, lines_of_cells}
use Rattle.listing_check.specs.UidCells.{UidCell, counter_by, counter_spelled, counter_with, uid_in}
use Rattle.listing_check.specs.UidCells.UidCell.{Counter, Forward, Reverse}
use Rattle.listing_check.specs.Flaws.{FlawIn, FlawOf, NoFlaw, PointFlaw, all_named, counter_in, has_name, uid_flaw, value_in}
use Rattle.listing_check.specs.Laws.{store_in}
use Rattle.listing_check.specs.declared.report.Flaw.{Flaw}
use Rattle.listing_check.specs.declared.report.Flaw.TheVariants.{BadLine, BadUidCell, AboveCounter, NoName, BadKey, RowNoName, BadCell}
use Rattle.listing_check.proofs.CallerLemmas.{counter_read, each_stands, flawless, found_none, found_none_once, kind_back, same_itself, unversioned, value_is_there, value_same}
use Rattle.listing_fix.specs.Fixes.{Fixes, Sifted, cells_among, counted_to, greatest_of, in_order, is_points, left_with, name_given, names_given, number_if, number_of, reads_at, uid_given, uid_of, with_counters, with_names, without_unread}
use Rattle.listing_fix.specs.Laws.{SoundStaysAsItIs}
use Rattle.listing_fix.proofs.NameFolds.{counter_at, held, says}
use Rattle.listing_fix.proofs.Mending.{counted, greater_most, held_entry, if_below, kept_unread, number_same}
use Rattle.listing_fix.proofs.Sorting.{rising_entries, same_lines}

-- ---- a cell without a flaw has none

no_flaw_too : (w : Widths) (cells : List ListLine) (row qual value : List ℕ) (f : Flaw) → PointFlaw w cells row qual value None → PointFlaw w cells row qual value (Some f) → ⊥
no_flaw_too w cells row qual value BadLine n x = x
no_flaw_too w cells row qual value BadUidCell n x = x
no_flaw_too w cells row qual value AboveCounter n x = x
no_flaw_too w cells row qual value NoName n x = x
no_flaw_too w cells row qual value BadKey n x = x n.0 n.1
no_flaw_too w cells row qual value RowNoName n x =
    let same : n.0 ≡ x.0 = one_key w n.0 x.0 n.1.0 x.1.0 (sym n.1.1 ∙ x.1.1) in
    let t : true ≡ false = sym n.2 ∙ ap (all_named w cells) same ∙ x.2 in
    absurd cc
no_flaw_too w cells row qual value BadCell n x = x.3 n.3

-- so nothing is left out
all_step : (w : Widths) (cells : List ListLine) (l : ListLine) (rest left : List ListLine) → FlawOf w cells l None → (x : Sifted w cells (l ∷ rest) left) → x.2.0 ≡ rest → left ≡ l ∷ rest
all_step w cells l rest left none x more = x.2.1 ∙ at l.table refl x.0 x.1 none
  where
    kept : (f : Option Flaw) (b : Bool) → (f ≡ None) ⊎ (b ≡ false) → left_with b f l x.2.0 ≡ l ∷ rest
    kept None true o = ap (λ (ls : List ListLine). l ∷ ls) more
    kept None false o = ap (λ (ls : List ListLine). l ∷ ls) more
    kept (Some f) false o = ap (λ (ls : List ListLine). l ∷ ls) more
    kept (Some f) true o = elim o [ inl e ↦ absurd (not_Some f e) | inr e ↦ absurd cc ]

    at : (t : Table) → l.table ≡ t → (f : Option Flaw) → FlawOf w cells l f → FlawOf w cells l None → left_with (is_points l.table) f l x.2.0 ≡ l ∷ rest
    at Ids is f flaw free = kept f (is_points l.table) (inr (ap is_points is))
    at Names is f flaw free = kept f (is_points l.table) (inr (ap is_points is))
    at Points is None flaw free = kept None (is_points l.table) (inl refl)
    at Points is (Some f) flaw free =
        absurd (no_flaw_too w cells l.row l.qual l.value f (subst (λ (t : Table). FlawIn w cells t l.row l.qual l.value None) is free) (subst (λ (t : Table). FlawIn w cells t l.row l.qual l.value (Some f)) is flaw))

sifted_all : (w : Widths) (cells rest left : List ListLine) → ((l : ListLine) → Contains rest l → FlawOf w cells l None) → Sifted w cells rest left → left ≡ rest
sifted_all w cells [] left none x = x
sifted_all w cells (l ∷ rest) left none x = all_step w cells l rest left (none l (here l rest)) x (sifted_all w cells rest x.2.0 (λ y c. none y (there l y rest c)) x.2.2)

-- ---- the store of cells that rise

entries_are : (w : Widths) (cells : List ListLine) → LinesRise cells → entries (store_in w cells) ≡ map entry_of_line cells
entries_are w cells up =
    same_entries place_cmp places_total exact_places (entries (store_in w cells)) (map entry_of_line cells) (entries_sorted (store_in w cells).cells) (sorted_from_rising place_cmp (map entry_of_line cells) (rising_entries cells up))
    (λ q. sym (get-entries (store_in w cells).cells q) ∙ get-from_entries places_total (map entry_of_line cells) q)

pub lines_are : (w : Widths) (cells : List ListLine) → LinesRise cells → lines_of (store_in w cells) ≡ cells
lines_are w cells up = ap (map line_of) (entries_are w cells up) ∙ same_lines cells

among_all : (cells : List ListLine) → cells_among (lines_of_cells cells) ≡ cells
among_all [] = refl
among_all (c ∷ cells) = ap (λ (ls : List ListLine). c ∷ ls) (among_all cells)

-- ---- no change

module _ (w : Widths) (cells : List ListLine) (up : LinesRise cells) (none : NoFlaw w cells) where
  abbrev s : Store
  s = store_in w cells

  -- what stands for an id or a name has no flaw
  uid_free : (p : Place) (v : List ℕ) → is_points p.row.table ≡ false → held s p ≡ Some v → None ≡ uid_flaw w cells (says w p v)
  uid_free p v pts there = at p.row.table pts (flawless w cells none p.row p.qual v there)
    where
      at : (t : Table) → is_points t ≡ false → FlawIn w cells t p.row.bytes p.qual v None → None ≡ uid_flaw w cells (uid_in w t p.row.bytes p.qual v)
      at Ids pts f = f
      at Names pts f = f
      at Points pts f = absurd cc

  reads : (u : Option UidCell) → None ≡ uid_flaw w cells u → is_some u ≡ true
  reads None e = absurd (not_Some BadUidCell (sym e))
  reads (Some u) e = refl

  held_content : (p : Place) (c : Content) → get s p ≡ Some c → held s p ≡ Some c.value
  held_content p c e = ap (option_map (λ (c : Content). c.value)) e

  reads_there : (p : Place) (c : Content) → get s p ≡ Some c → reads_at w p (Some c) ≡ true
  reads_there p c e = at (is_points p.row.table) refl
    where
      at : (b : Bool) → is_points p.row.table ≡ b → (b || is_some (uid_of w p c)) ≡ true
      at true is = refl
      at false is = reads (uid_of w p c) (uid_free p c.value is (held_content p c e))

  second : without_unread s ≡ s
  second = ap (λ (cs : StoreCells). record { widths = w; cells = cs }) (same_map places_total exact_places (without_unread s).cells s.cells (λ p. kept_unread s p ∙ at p (get s p) refl))
    where
      at : (p : Place) (o : Option Content) → get s p ≡ o → cond (reads_at w p o) o None ≡ o
      at p None e = refl
      at p (Some c) e = ap (λ b. cond b (Some c) None) (reads_there p c e)

  -- ---- names

  abbrev Fine : Place × Content → Type 0
  Fine e = (k : Kind) (m : List ℕ) (i : ℕ) → uid_of w e.0 e.1 ≡ Some (Forward k m i) → name_in s k i ≡ Some m

  given_same : (u : Option UidCell) → ((k : Kind) (m : List ℕ) (i : ℕ) → u ≡ Some (Forward k m i) → name_in s k i ≡ Some m) → uid_given s u ≡ s
  given_same None fine = refl
  given_same (Some (Counter k n)) fine = refl
  given_same (Some (Reverse k i m)) fine = refl
  given_same (Some (Forward k m i)) fine =
      ap (name_given s k m i) (fine k m i refl) ∙ ap (λ b. cond b s (remove s (place_of (name_row m) (kind_qual k)))) (same_itself m)

  names_same : (es : List (Place × Content)) → ((e : Place × Content) → Contains es e → Fine e) → names_given s es ≡ s
  names_same [] fine = refl
  names_same (e ∷ es) fine = ap (λ (t : Store). names_given t es) (given_same (uid_of w e.0 e.1) (fine e (here e es))) ∙ names_same es (λ f c. fine f (there e f es c))

  -- an entry of the store is a cell
  entry_cell : (e : Place × Content) → Contains (entries s) e → (l : ListLine) × Contains cells l × (entry_of_line l ≡ e)
  entry_cell e c = map_in entry_of_line cells e (subst (λ (es : List (Place × Content)). Contains es e) (entries_are w cells up) c)

  entry_flaw : (e : Place × Content) → Contains (entries s) e → is_points e.0.row.table ≡ false → None ≡ uid_flaw w cells (uid_of w e.0 e.1)
  entry_flaw e c pts =
      let y = entry_cell e c in
      uid_free e.0 e.1.value pts (subst (λ (x : Place × Content). held s x.0 ≡ Some x.1.value) y.2 (each_stands w cells y.0 up y.1))

  -- points say nothing of ids
  says_none : (e : Place × Content) → is_points e.0.row.table ≡ true → uid_of w e.0 e.1 ≡ None
  says_none e pts = at e.0.row.table pts
    where
      at : (t : Table) → is_points t ≡ true → uid_in w t e.0.row.bytes e.0.qual e.1.value ≡ None
      at Ids pts = absurd cc
      at Names pts = absurd cc
      at Points pts = refl

  entry_says : (e : Place × Content) → Contains (entries s) e → (uid_of w e.0 e.1 ≡ None) ⊎ (None ≡ uid_flaw w cells (uid_of w e.0 e.1))
  entry_says e c = at (is_points e.0.row.table) refl
    where
      at : (b : Bool) → is_points e.0.row.table ≡ b → (uid_of w e.0 e.1 ≡ None) ⊎ (None ≡ uid_flaw w cells (uid_of w e.0 e.1))
      at true pts = inl (says_none e pts)
      at false pts = inr (entry_flaw e c pts)

  each_fine : (e : Place × Content) → Contains (entries s) e → Fine e
  each_fine e c k m i is = at (entry_says e c)
    where
      at : (uid_of w e.0 e.1 ≡ None) ⊎ (None ≡ uid_flaw w cells (uid_of w e.0 e.1)) → name_in s k i ≡ Some m
      at (inl n) = absurd (not_Some (Forward k m i) (sym is ∙ n))
      at (inr f) =
          let tests = found_none (nat_lt (counter_in w cells k) i) (has_name w cells k i m) AboveCounter NoName (f ∙ ap (uid_flaw w cells) is) in
          value_same w cells (id_row w k i) (kind_qual k) ∙ value_is_there m (value_in cells (id_row w k i) (kind_qual k)) tests.1

  third : with_names s ≡ s
  third = names_same (entries s) each_fine

  -- ---- counters

  abbrev most : Kind → ℕ
  most k = greatest_of w k (entries s)

  -- what stands in the counter's cell of a kind is a counter
  counter_stands : (p : Place) (v : List ℕ) (k : Kind) → p.row ≡ counter_row → p.qual ≡ kind_qual k → held s p ≡ Some v → (n : ℕ) × (counter_spelled w k v ≡ Some n)
  counter_stands p v k row qual there =
      by (counter_spelled w k v) refl (flawless w cells none counter_row (kind_qual k) v (ap (held s) (λ t. record { row = sym row t; qual = sym qual t }) ∙ there) ∙ ap (λ o. uid_flaw w cells (counter_by w o v)) (kind_back k))
    where
      by : (n : Option ℕ) → counter_spelled w k v ≡ n → None ≡ uid_flaw w cells (counter_with k n) → (n : ℕ) × (counter_spelled w k v ≡ Some n)
      by None is e = absurd (not_Some BadUidCell (sym e))
      by (Some n) is e = (n, is)

  -- a counter that stands is the one that is read
  is_counter : (p : Place) (v : List ℕ) (k : Kind) (n : ℕ) → held s p ≡ Some v → says w p v ≡ Some (Counter k n) → n ≤ counter_in w cells k
  is_counter p v k n there is =
      let c = counter_at w p.row.table p.row.bytes p.qual v k n is in
      let here : held s (place_of counter_row (kind_qual k)) ≡ Some v = ap (held s) (λ t. record { row = record { table = sym c.table_is t; bytes = sym c.row_is t }; qual = sym c.qual_is t }) ∙ there in
      let read : counter_in w cells k ≡ n = ap (λ o. unwrap_or (option_and_then (counter_spelled w k) o) 0) (sym (value_same w cells counter_row (kind_qual k)) ∙ here) ∙ ap (λ o. unwrap_or o 0) c.number_is in
      omega (arith, read)

  number_below : (e : Place × Content) → Contains (entries s) e → (k : Kind) → number_of k (uid_of w e.0 e.1) ≤ counter_in w cells k
  number_below e c k = at (uid_of w e.0 e.1) refl (entry_says e c)
    where
      there : held s e.0 ≡ Some e.1.value
      there = let y = entry_cell e c in subst (λ (x : Place × Content). held s x.0 ≡ Some x.1.value) y.2 (each_stands w cells y.0 up y.1)

      low : (j : Kind) (i : ℕ) → nat_lt (counter_in w cells j) i ≡ false → number_if k j i ≤ counter_in w cells k
      low j i e = if_below k j i (counter_in w cells k) (λ same. (let y = ltb-false (counter_in w cells j) i e in let t : counter_in w cells j ≡ counter_in w cells k = ap (counter_in w cells) (sym same) in omega (arith, y, t)))

      at : (u : Option UidCell) → uid_of w e.0 e.1 ≡ u → (u ≡ None) ⊎ (None ≡ uid_flaw w cells u) → number_of k u ≤ counter_in w cells k
      at None is o = omega arith
      at (Some (Counter j n)) is o = if_below k j n (counter_in w cells k) (λ same. (let y = is_counter e.0 e.1.value j n there is in let t : counter_in w cells j ≡ counter_in w cells k = ap (counter_in w cells) (sym same) in omega (arith, y, t)))
      at (Some (Forward j m i)) is o = elim o [
        | inl n ↦ absurd (not_Some (Forward j m i) n)
        | inr f ↦ low j i (found_none (nat_lt (counter_in w cells j) i) (has_name w cells j i m) AboveCounter NoName f).0
      ]
      at (Some (Reverse j i m)) is o = elim o [
        | inl n ↦ absurd (not_Some (Reverse j i m) n)
        | inr f ↦ low j i (found_none_once (nat_lt (counter_in w cells j) i) AboveCounter f)
      ]

  greatest_below : (k : Kind) (m : ℕ) (es : List (Place × Content)) → ((e : Place × Content) → Contains es e → number_of k (uid_of w e.0 e.1) ≤ m) → greatest_of w k es ≤ m
  greatest_below k m [] low = omega arith
  greatest_below k m (e ∷ es) low = greater_most (number_of k (uid_of w e.0 e.1)) (greatest_of w k es) m (low e (here e es)) (greatest_below k m es (λ f c. low f (there e f es c)))

  -- a counter that is counted to is there already
  counted_same : (k : Kind) → counted_to k (most k) s ≡ s
  counted_same k = at (nat_eq (most k) 0) refl
    where
      below : most k ≤ counter_in w cells k
      below = greatest_below k (counter_in w cells k) (entries s) (λ e c. number_below e c k)

      stands : (b : Bool) → nat_eq (most k) 0 ≡ b → b ≡ false → get s (place_of counter_row (kind_qual k)) ≡ Some (record { value = to_be_bytes w64 (most k); version = 0 })
      stands true e f = absurd cc
      stands false e f = by (get s (place_of counter_row (kind_qual k))) refl
        where
          some : most k ≡ 0 → ⊥
          some z = let t : true ≡ false = sym (ap (λ n. nat_eq n 0) z) ∙ e in absurd cc

          zero_if : held s (place_of counter_row (kind_qual k)) ≡ None → most k ≡ 0
          zero_if none =
              let z : counter_in w cells k ≡ 0 = ap (λ o. unwrap_or (option_and_then (counter_spelled w k) o) 0) (sym (value_same w cells counter_row (kind_qual k)) ∙ none) in
              omega (arith, below, z)

          by : (o : Option Content) → get s (place_of counter_row (kind_qual k)) ≡ o → o ≡ Some (record { value = to_be_bytes w64 (most k); version = 0 })
          by None is = absurd (some (zero_if (ap (option_map (λ (c : Content). c.value)) is)))
          by (Some c) is =
              let there : held s (place_of counter_row (kind_qual k)) ≡ Some c.value = ap (option_map (λ (c : Content). c.value)) is in
              let old = unversioned w cells counter_row (kind_qual k) c is in
              let d = counter_stands (place_of counter_row (kind_qual k)) c.value k refl refl there in
              let read : counter_in w cells k ≡ d.0 = ap (λ o. unwrap_or (option_and_then (counter_spelled w k) o) 0) (sym (value_same w cells counter_row (kind_qual k)) ∙ there) ∙ ap (λ o. unwrap_or o 0) d.1 in
              let x = held_entry s (place_of counter_row (kind_qual k)) c.value there in
              let number : uid_of w x.entry.0 x.entry.1 ≡ Some (Counter k d.0) = (λ t. says w (x.place_is t) (x.value_is t)) ∙ ap (λ j. counter_by w j c.value) (kind_back k) ∙ ap (counter_with k) d.1 in
              let up_to : number_of k (Some (Counter k d.0)) ≤ most k = subst (λ u. number_of k u ≤ most k) number (counted w k (entries s) x.entry x.among) in
              let own = number_same k d.0 in
              let same : d.0 ≡ most k = omega (arith, below, read, up_to, own) in
              λ t. Some (record { value = ((counter_read w k c.value d.0 d.1).value_is ∙ ap (to_be_bytes w64) same) t; version = old t })

      at : (b : Bool) → nat_eq (most k) 0 ≡ b → cond b s (written s counter_row (kind_qual k) (to_be_bytes w64 (most k)) 0) ≡ s
      at true e = refl
      at false e = ap (λ (cs : StoreCells). record { widths = w; cells = cs }) (same_map places_total exact_places (written s counter_row (kind_qual k) (to_be_bytes w64 (most k)) 0).cells s.cells
          (λ q. get-insert places_total s.cells (place_of counter_row (kind_qual k)) (record { value = to_be_bytes w64 (most k); version = 0 }) q ∙ either q (eq_by_cmp place_cmp q (place_of counter_row (kind_qual k))) refl))
        where
          either : (q : Place) (b : Bool) → eq_by_cmp place_cmp q (place_of counter_row (kind_qual k)) ≡ b → cond b (Some (record { value = to_be_bytes w64 (most k); version = 0 })) (get s q) ≡ get s q
          either q true same = sym (ap (get s) (exact_places q (place_of counter_row (kind_qual k)) (is_equal _ same)) ∙ stands (nat_eq (most k) 0) refl e)
          either q false same = refl

  fourth : with_counters s ≡ s
  fourth =
      ap (λ (t : Store). counted_to TagValue (most TagValue) (counted_to TagKey (most TagKey) t)) (counted_same Metric)
      ∙ ap (λ (t : Store). counted_to TagValue (most TagValue) t) (counted_same TagKey)
      ∙ counted_same TagValue

  mended_same : with_counters (with_names (without_unread s)) ≡ s
  mended_same = ap (λ (t : Store). with_counters (with_names t)) second ∙ ap with_counters third ∙ fourth

  abbrev read : ListingRead
  read = record { widths = w; lines = lines_of_cells cells }

  pub unmended : (result : List ListLine) → Fixes read result → result ≡ cells
  unmended result x =
      let order : in_order read ≡ s = ap (store_in w) (among_all cells) in
      let same : lines_of (with_counters (with_names (without_unread (in_order read)))) ≡ cells = ap (λ (t : Store). lines_of (with_counters (with_names (without_unread t)))) order ∙ ap lines_of mended_same ∙ lines_are w cells up in
      sifted_all w cells cells result none (subst (λ (ls : List ListLine). Sifted w ls ls result) same x)

pub sound_stays : SoundStaysAsItIs
sound_stays w cells result up none x = unmended w cells up none result x
