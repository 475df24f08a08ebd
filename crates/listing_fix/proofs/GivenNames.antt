-- The third change, by what a look-up finds behind it.
use Rattle.std.proofs.Common.{◌≡◌, ◌≢◌, ◌⊎◌, inl, inr, Bool, true, false, cond, List, [], ◌∷◌, ◌++◌, refl, sym, ap, subst, ◌∙◌, arith}
use Rattle.std.specs.Prelude.{ℕ, Option, None, Some, option_map, map, filter, is_some, not, AllPairs, if◌then◌else◌, ◌||◌}
use Rattle.std.specs.Ordering.{eq_by_cmp}
use Rattle.std.specs.Cmp.{tied_itself}
use Rattle.std.specs.declared.cmp.Ordering.TheVariants.{Less, Equal}
use Rattle.std.specs.FinMap.{find, entries_sorted, get-entries}
use Rattle.list_lemmas.proofs.BoolTests.{is_equal, not_Some}
use Rattle.list_lemmas.proofs.EntryLemmas.{sorted-rising}
use Rattle.list_lemmas.proofs.ListMembers.{pairs_in, pairs_tail}
use Rattle.tsd_base.specs.declared.kinds.Kind.{Kind}
use Rattle.row_key.specs.declared.tables.Table.{Table}
use Rattle.row_key.specs.declared.tables.Table.TheVariants.{Ids, Names, Points}
use Rattle.cell_model.specs.declared.row.ListLine.{ListLine}
use Rattle.cell_model.specs.declared.events.Place.{Place}
use Rattle.cell_model.specs.declared.events.Content.{Content}
use Rattle.cell_model.specs.KindWidths.{Widths}
use Rattle.cell_model.specs.PlaceOrder.{place_cmp, table_number}
use Rattle.cell_model.specs.Store.{Store, entries, place_of, remove, same_bytes, written}
use Rattle.cell_model.specs.Machine.{kind_qual}
use Rattle.cell_model.specs.IdRows.{id_row, name_in, name_row}
use Rattle.cell_model.specs.Counts.{line_of, lines_of}
use Rattle.cell_model.proofs.CallerLemmas.{exact_places, places_total, same_or_not}
use Rattle.listing_check.specs.UidCells.{UidCell, id_spelled, kind_named, name_spelled, reverse_by, reverse_with, uid_cell, uid_in}
use Rattle.listing_check.specs.UidCells.UidCell.{Counter, Forward, Reverse}
use Rattle.listing_check.specs.Flaws.{is_value, value_in}
use Rattle.listing_check.specs.Laws.{store_in}
use Rattle.listing_check.proofs.CallerLemmas.{same_itself}
use Rattle.listing_fix.specs.Fixes.{name_given, names_given, uid_given, uid_of, with_names}
use Rattle.listing_fix.specs.Steps.{is_kept_name, keeps_name, reverse_cell, reverse_cells, reverse_if}
use Rattle.listing_fix.proofs.NameFolds.{forward_at, held, held_removed, held_removed_other, held_written, held_written_other, tables_differ}
use Rattle.listing_fix.proofs.Mending.{find_entry, given_widths}
use Rattle.listing_fix.proofs.Told.{filtered, first_first, first_none, first_of, line_at, other_place, seen, seen_held, seen_here, seen_join, seen_past, seen_store, stays_at, tied_place}

-- what names give, whether their ids have a name or not
abbrev pub gives : Widths → Option UidCell → List ListLine
gives w None = []
gives w (Some (Counter k n)) = []
gives w (Some (Reverse k i m)) = []
gives w (Some (Forward k m i)) = reverse_cell w k i m ∷ []

abbrev pub all_given : Widths → List (Place × Content) → List ListLine
all_given w [] = []
all_given w (e ∷ es) = gives w (uid_of w e.0 e.1) ++ all_given w es

abbrev IsOther : Place → Type 0
IsOther p = p.row.table ≡ Ids → ⊥

-- where the place is one of ids, it is none of names
not_target : (w : Widths) (k : Kind) (i : ℕ) (p : Place) → p.row.table ≡ Ids → p ≢ place_of (id_row w k i) (kind_qual k)
not_target w k i p ids = tables_differ p (place_of (id_row w k i) (kind_qual k)) ids refl

not_own : (k : Kind) (m : List ℕ) (p : Place) → IsOther p → p ≢ place_of (name_row m) (kind_qual k)
not_own k m p other e = other (ap (λ (q : Place). q.row.table) e)

-- ---- one name

one_given : (t : Store) (u : Option UidCell) (p : Place) → IsOther p → held (uid_given t u) p ≡ first_of (held t p) (seen (gives t.widths u) p)
one_given t None p other = sym (first_none (held t p))
one_given t (Some (Counter k n)) p other = sym (first_none (held t p))
one_given t (Some (Reverse k i m)) p other = sym (first_none (held t p))
one_given t (Some (Forward k m i)) p other = at (name_in t k i) refl (same_or_not p (place_of (id_row t.widths k i) (kind_qual k)))
  where
    past : p ≢ place_of (id_row t.widths k i) (kind_qual k) → held t p ≡ first_of (held t p) (seen (reverse_cell t.widths k i m ∷ []) p)
    past ne = sym (ap (first_of (held t p)) (seen_past (reverse_cell t.widths k i m) [] p ne) ∙ first_none (held t p))

    kept : (b : Bool) → held (cond b t (remove t (place_of (name_row m) (kind_qual k)))) p ≡ held t p
    kept true = refl
    kept false = held_removed_other t (place_of (name_row m) (kind_qual k)) p (not_own k m p other)

    at : (o : Option (List ℕ)) → name_in t k i ≡ o → (p ≡ place_of (id_row t.widths k i) (kind_qual k)) ⊎ (p ≢ place_of (id_row t.widths k i) (kind_qual k))
        → held (name_given t k m i o) p ≡ first_of (held t p) (seen (reverse_cell t.widths k i m ∷ []) p)
    at None none (inl same) =
        ap (held (written t (id_row t.widths k i) (kind_qual k) m 0)) same ∙ held_written t (id_row t.widths k i) (kind_qual k) m
        ∙ sym (ap (λ o. first_of o (seen (reverse_cell t.widths k i m ∷ []) p)) (ap (held t) same ∙ none) ∙ seen_here (reverse_cell t.widths k i m) [] p same)
    at None none (inr ne) = held_written_other t (id_row t.widths k i) (kind_qual k) m p ne ∙ past ne
    at (Some other) named (inl same) = kept (same_bytes other m) ∙ (ap (held t) same ∙ named) ∙ sym (ap (λ o. first_of o (seen (reverse_cell t.widths k i m ∷ []) p)) (ap (held t) same ∙ named))
    at (Some other) named (inr ne) = kept (same_bytes other m) ∙ past ne

-- ---- all names: what stands for ids

pub names_seen : (w : Widths) (t : Store) (es : List (Place × Content)) (p : Place) → t.widths ≡ w → IsOther p → held (names_given t es) p ≡ first_of (held t p) (seen (all_given w es) p)
names_seen w t [] p width other = sym (first_none (held t p))
names_seen w t (e ∷ es) p width other =
    names_seen w (uid_given t (uid_of t.widths e.0 e.1)) es p (given_widths t (uid_of t.widths e.0 e.1) ∙ width) other
    ∙ ap (λ o. first_of o (seen (all_given w es) p)) (one_given t (uid_of t.widths e.0 e.1) p other)
    ∙ first_first (held t p) (seen (gives t.widths (uid_of t.widths e.0 e.1)) p) (seen (all_given w es) p)
    ∙ ap (λ (v : Widths). first_of (held t p) (first_of (seen (gives v (uid_of v e.0 e.1)) p) (seen (all_given w es) p))) width
    ∙ ap (first_of (held t p)) (sym (seen_join (gives w (uid_of w e.0 e.1)) (all_given w es) p))

-- ---- all names: which ones stay

abbrev named : Widths → Store → Kind → ℕ → Option (List ℕ)
named w s k i = held s (place_of (id_row w k i) (kind_qual k))

-- the name has its id in the end, or this is no name
abbrev has_own : Widths → Store → Option UidCell → Bool
has_own w s None = true
has_own w s (Some (Counter k n)) = true
has_own w s (Some (Reverse k i m)) = true
has_own w s (Some (Forward k m i)) = is_value m (named w s k i)

abbrev left_by : Widths → Store → Place × Content → Place → Option (List ℕ) → Option (List ℕ)
left_by w s e p o = if has_own w s (uid_of w e.0 e.1) || not (eq_by_cmp place_cmp p e.0) then o else None

abbrev left_by_all : Widths → Store → List (Place × Content) → Place → Option (List ℕ) → Option (List ℕ)
left_by_all w s [] p o = o
left_by_all w s (e ∷ es) p o = left_by_all w s es p (left_by w s e p o)

one_left : (w : Widths) (t f : Store) (e : Place × Content) (u : Option UidCell) (p : Place) → t.widths ≡ w → p.row.table ≡ Ids → uid_of w e.0 e.1 ≡ u
    → ((k : Kind) (i : ℕ) (v : List ℕ) → named w (uid_given t u) k i ≡ Some v → named w f k i ≡ Some v) → held (uid_given t u) p ≡ cond (has_own w f u || not (eq_by_cmp place_cmp p e.0)) (held t p) None
one_left w t f e None p width ids is later = refl
one_left w t f e (Some (Counter k n)) p width ids is later = refl
one_left w t f e (Some (Reverse k i m)) p width ids is later = refl
one_left w t f e (Some (Forward k m i)) p width ids is later = at (name_in t k i) refl (same_or_not p (place_of (name_row m) (kind_qual k))) later
  where
    here : e.0 ≡ place_of (name_row m) (kind_qual k)
    here =
        let x = forward_at w e.0.row.table e.0.row.bytes e.0.qual e.1.value k m i is in
        λ j. record { row = record { table = x.table_is j; bytes = x.row_is j }; qual = x.qual_is j }

    at_width : named w t k i ≡ name_in t k i
    at_width = ap (λ (v : Widths). held t (place_of (id_row v k i) (kind_qual k))) (sym width)

    stays : (v : List ℕ) → same_bytes v m ≡ true → named w f k i ≡ Some v → (o : Option (List ℕ)) → o ≡ cond (is_value m (named w f k i) || not (eq_by_cmp place_cmp p e.0)) o None
    stays v same has o = sym (ap (λ b. cond (b || not (eq_by_cmp place_cmp p e.0)) o None) (ap (is_value m) has ∙ same))

    by : (b : Bool) (v : List ℕ) → same_bytes v m ≡ b → name_in t k i ≡ Some v → (p ≡ place_of (name_row m) (kind_qual k)) ⊎ (p ≢ place_of (name_row m) (kind_qual k))
        → ((j : Kind) (h : ℕ) (x : List ℕ) → named w (cond b t (remove t (place_of (name_row m) (kind_qual k)))) j h ≡ Some x → named w f j h ≡ Some x)
        → held (cond b t (remove t (place_of (name_row m) (kind_qual k)))) p ≡ cond (is_value m (named w f k i) || not (eq_by_cmp place_cmp p e.0)) (held t p) None
    by true v same has own later = stays v same (later k i v (at_width ∙ has)) (held t p)
    by false v same has (inl own) later =
        let there : named w f k i ≡ Some v = later k i v (held_removed_other t (place_of (name_row m) (kind_qual k)) (place_of (id_row w k i) (kind_qual k)) (λ q. tables_differ (place_of (name_row m) (kind_qual k)) (place_of (id_row w k i) (kind_qual k)) refl refl (sym q)) ∙ at_width ∙ has) in
        ap (held (remove t (place_of (name_row m) (kind_qual k)))) own ∙ held_removed t (place_of (name_row m) (kind_qual k))
        ∙ sym (λ j. cond ((ap (is_value m) there ∙ same) j || not (tied_place p e.0 (own ∙ sym here) j)) (held t p) None)
    by false v same has (inr ne) later =
        held_removed_other t (place_of (name_row m) (kind_qual k)) p ne
        ∙ sym (ap (λ b. cond (is_value m (named w f k i) || not b) (held t p) None) (other_place p e.0 (λ q. ne (q ∙ here))) ∙ either (is_value m (named w f k i)))
      where
        either : (b : Bool) → cond (b || true) (held t p) None ≡ held t p
        either true = refl
        either false = refl

    at : (o : Option (List ℕ)) → name_in t k i ≡ o → (p ≡ place_of (name_row m) (kind_qual k)) ⊎ (p ≢ place_of (name_row m) (kind_qual k))
        → ((j : Kind) (h : ℕ) (v : List ℕ) → named w (name_given t k m i o) j h ≡ Some v → named w f j h ≡ Some v)
        → held (name_given t k m i o) p ≡ cond (is_value m (named w f k i) || not (eq_by_cmp place_cmp p e.0)) (held t p) None
    at None none own later =
        held_written_other t (id_row t.widths k i) (kind_qual k) m p (not_target t.widths k i p ids)
        ∙ stays m (same_itself m) (later k i m (ap (λ (v : Widths). held (written t (id_row t.widths k i) (kind_qual k) m 0) (place_of (id_row v k i) (kind_qual k))) (sym width) ∙ held_written t (id_row t.widths k i) (kind_qual k) m)) (held t p)
    at (Some v) has own later = by (same_bytes v m) v refl has own later

pub names_left : (w : Widths) (t : Store) (es : List (Place × Content)) (p : Place) → t.widths ≡ w → p.row.table ≡ Ids → held (names_given t es) p ≡ left_by_all w (names_given t es) es p (held t p)
names_left w t [] p width ids = refl
names_left w t (e ∷ es) p width ids =
    names_left w next es p (given_widths t (uid_of t.widths e.0 e.1) ∙ width) ids
    ∙ ap (left_by_all w (names_given next es) es p) (subst (λ (u : Option UidCell). held next p ≡ cond (has_own w (names_given next es) u || not (eq_by_cmp place_cmp p e.0)) (held t p) None) as_w (one_left w t (names_given next es) e (uid_of t.widths e.0 e.1) p width ids (sym as_w) later))
  where
    next : Store
    next = uid_given t (uid_of t.widths e.0 e.1)

    as_w : uid_of t.widths e.0 e.1 ≡ uid_of w e.0 e.1
    as_w = ap (λ (v : Widths). uid_of v e.0 e.1) width

    names_table : (k : Kind) (i : ℕ) → IsOther (place_of (id_row w k i) (kind_qual k))
    names_table k i e = let n : 1 ≡ 0 = ap table_number e in omega (arith, n)

    later : (k : Kind) (i : ℕ) (v : List ℕ) → named w next k i ≡ Some v → named w (names_given next es) k i ≡ Some v
    later k i v has =
        names_seen w next es (place_of (id_row w k i) (kind_qual k)) (given_widths t (uid_of t.widths e.0 e.1) ∙ width) (names_table k i)
        ∙ ap (λ o. first_of o (seen (all_given w es) (place_of (id_row w k i) (kind_qual k)))) has

-- ---- of entries that rise

abbrev RiseByPlace : Place × Content → Place × Content → Type 0
RiseByPlace a b = place_cmp a.0 b.0 ≡ Less

gone : (w : Widths) (s : Store) (es : List (Place × Content)) (p : Place) → left_by_all w s es p None ≡ None
gone w s [] p = refl
gone w s (e ∷ es) p = ap (left_by_all w s es p) (either (has_own w s (uid_of w e.0 e.1) || not (eq_by_cmp place_cmp p e.0))) ∙ gone w s es p
  where
    either : (b : Bool) → ◌≡◌ {A = Option (List ℕ)} (cond b None None) None
    either true = refl
    either false = refl

or_true : (b : Bool) (o : Option (List ℕ)) → cond (b || true) o None ≡ o
or_true true o = refl
or_true false o = refl

passed : (w : Widths) (s : Store) (es : List (Place × Content)) (p : Place) (o : Option (List ℕ)) → find place_cmp p es ≡ None → left_by_all w s es p o ≡ o
passed w s [] p o none = refl
passed w s (e ∷ es) p o none = at (eq_by_cmp place_cmp p e.0) refl none (λ n. passed w s es p o n)
  where
    at : (b : Bool) → eq_by_cmp place_cmp p e.0 ≡ b → cond b (Some e.1) (find place_cmp p es) ≡ None → (find place_cmp p es ≡ None → left_by_all w s es p o ≡ o)
        → left_by_all w s es p (cond (has_own w s (uid_of w e.0 e.1) || not (eq_by_cmp place_cmp p e.0)) o None) ≡ o
    at true q none go = absurd (not_Some e.1 none)
    at false q none go = ap (λ c. left_by_all w s es p (cond (has_own w s (uid_of w e.0 e.1) || not c) o None)) q ∙ ap (left_by_all w s es p) (or_true (has_own w s (uid_of w e.0 e.1)) o) ∙ go none

none_behind : (e : Place × Content) (es : List (Place × Content)) (p : Place) → AllPairs RiseByPlace (e ∷ es) → p ≡ e.0 → find place_cmp p es ≡ None
none_behind e es p up is = at (find place_cmp p es) refl
  where
    at : (o : Option Content) → find place_cmp p es ≡ o → o ≡ None
    at None found = refl
    at (Some c) found =
        let x = find_entry es p c found in
        let lt : place_cmp e.0 e.0 ≡ Less = ap (place_cmp e.0) (sym (x.place_is ∙ is)) ∙ pairs_in RiseByPlace e x.entry es up x.among in
        let t : place_cmp e.0 e.0 ≡ Equal = tied_itself places_total e.0 in
        let w : Less ≡ Equal = sym lt ∙ t in
        absurd cc

met : (w : Widths) (s : Store) (es : List (Place × Content)) (p : Place) → AllPairs RiseByPlace es
    → left_by_all w s es p (option_map (λ (c : Content). c.value) (find place_cmp p es)) ≡ stays_at (λ l. has_own w s (uid_cell w l)) p (option_map (λ (c : Content). c.value) (find place_cmp p es))
met w s [] p up = refl
met w s (e ∷ es) p up = at (eq_by_cmp place_cmp p e.0) refl (met w s es p (pairs_tail RiseByPlace e es up))
  where
    found : eq_by_cmp place_cmp p e.0 ≡ true → p ≡ e.0
    found q = exact_places p e.0 (is_equal _ q)

    tests : eq_by_cmp place_cmp p e.0 ≡ true → has_own w s (uid_cell w (line_at p e.1.value)) ≡ has_own w s (uid_of w e.0 e.1)
    tests q = ap (λ (x : Place). has_own w s (uid_of w x e.1)) (found q)

    by : (h : Bool) → has_own w s (uid_of w e.0 e.1) ≡ h → eq_by_cmp place_cmp p e.0 ≡ true → left_by_all w s es p (cond (h || false) (Some e.1.value) None) ≡ cond (has_own w s (uid_cell w (line_at p e.1.value))) (Some e.1.value) None
    by true h q = passed w s es p (Some e.1.value) (none_behind e es p up (found q)) ∙ sym (ap (λ b. cond b (Some e.1.value) None) (tests q ∙ h))
    by false h q = gone w s es p ∙ sym (ap (λ b. cond b (Some e.1.value) None) (tests q ∙ h))

    at : (b : Bool) → eq_by_cmp place_cmp p e.0 ≡ b
        → left_by_all w s es p (option_map (λ (c : Content). c.value) (find place_cmp p es)) ≡ stays_at (λ l. has_own w s (uid_cell w l)) p (option_map (λ (c : Content). c.value) (find place_cmp p es))
        → left_by_all w s es p (cond (has_own w s (uid_of w e.0 e.1) || not (eq_by_cmp place_cmp p e.0)) (option_map (λ (c : Content). c.value) (cond b (Some e.1) (find place_cmp p es))) None)
        ≡ stays_at (λ l. has_own w s (uid_cell w l)) p (option_map (λ (c : Content). c.value) (cond b (Some e.1) (find place_cmp p es)))
    at true q go = ap (λ c. left_by_all w s es p (cond (has_own w s (uid_of w e.0 e.1) || not c) (Some e.1.value) None)) q ∙ by (has_own w s (uid_of w e.0 e.1)) refl q
    at false q go =
        ap (λ c. left_by_all w s es p (cond (has_own w s (uid_of w e.0 e.1) || not c) (option_map (λ (c : Content). c.value) (find place_cmp p es)) None)) q
        ∙ ap (left_by_all w s es p) (or_true (has_own w s (uid_of w e.0 e.1)) (option_map (λ (c : Content). c.value) (find place_cmp p es))) ∙ go

ids_left : (w : Widths) (s : Store) (p : Place) → s.widths ≡ w → p.row.table ≡ Ids → held (with_names s) p ≡ stays_at (λ l. has_own w (with_names s) (uid_cell w l)) p (held s p)
ids_left w s p width ids =
    names_left w s (entries s) p width ids
    ∙ ap (λ (o : Option Content). left_by_all w (with_names s) (entries s) p (option_map (λ (c : Content). c.value) o)) (get-entries s.cells p)
    ∙ met w (with_names s) (entries s) p (sorted-rising place_cmp (entries s) (entries_sorted s.cells))
    ∙ ap (λ (o : Option Content). stays_at (λ l. has_own w (with_names s) (uid_cell w l)) p (option_map (λ (c : Content). c.value) o)) (sym (get-entries s.cells p))

-- ---- what is given where nothing stands

if_none : (w : Widths) (xs : List ListLine) (u : Option UidCell) (p : Place) → seen xs p ≡ None → seen (reverse_if w xs u) p ≡ seen (gives w u) p
if_none w xs None p none = refl
if_none w xs (Some (Counter k n)) p none = refl
if_none w xs (Some (Reverse k i m)) p none = refl
if_none w xs (Some (Forward k m i)) p none = by (value_in xs (id_row w k i) (kind_qual k)) refl
  where
    by : (o : Option (List ℕ)) → value_in xs (id_row w k i) (kind_qual k) ≡ o → seen (cond (is_some o) [] (reverse_cell w k i m ∷ [])) p ≡ seen (reverse_cell w k i m ∷ []) p
    by None e = refl
    by (Some v) e = sym (seen_past (reverse_cell w k i m) [] p (λ same. not_Some v (sym e ∙ ap (seen xs) (sym same) ∙ none)))

all_if : (w : Widths) (xs : List ListLine) (es : List (Place × Content)) (p : Place) → seen xs p ≡ None → seen (reverse_cells w xs (map line_of es)) p ≡ seen (all_given w es) p
all_if w xs [] p none = refl
all_if w xs (e ∷ es) p none =
    seen_join (reverse_if w xs (uid_of w e.0 e.1)) (reverse_cells w xs (map line_of es)) p
    ∙ (let a = if_none w xs (uid_of w e.0 e.1) p none in let b = all_if w xs es p none in λ j. first_of (a j) (b j))
    ∙ sym (seen_join (gives w (uid_of w e.0 e.1)) (all_given w es) p)

if_ids : (w : Widths) (xs : List ListLine) (u : Option UidCell) (p : Place) → p.row.table ≡ Ids → seen (reverse_if w xs u) p ≡ None
if_ids w xs None p ids = refl
if_ids w xs (Some (Counter k n)) p ids = refl
if_ids w xs (Some (Reverse k i m)) p ids = refl
if_ids w xs (Some (Forward k m i)) p ids = by (is_some (value_in xs (id_row w k i) (kind_qual k)))
  where
    by : (b : Bool) → seen (cond b [] (reverse_cell w k i m ∷ [])) p ≡ None
    by true = refl
    by false = seen_past (reverse_cell w k i m) [] p (not_target w k i p ids)

none_given : (w : Widths) (xs ls : List ListLine) (p : Place) → p.row.table ≡ Ids → seen (reverse_cells w xs ls) p ≡ None
none_given w xs [] p ids = refl
none_given w xs (l ∷ ls) p ids =
    seen_join (reverse_if w xs (uid_cell w l)) (reverse_cells w xs ls) p ∙ (let a = if_ids w xs (uid_cell w l) p ids in let b = none_given w xs ls p ids in λ j. first_of (a j) (b j))

-- ---- the third change

kept_other : (w : Widths) (cells : List ListLine) (t : Table) (row qual value : List ℕ) → (t ≡ Ids → ⊥) → is_kept_name w cells (uid_in w t row qual value) ≡ true
kept_other w cells Ids row qual value other = absurd (other refl)
kept_other w cells Points row qual value other = refl
kept_other w cells Names row qual value other = at (kind_named qual)
  where
    by : (k : Kind) (i : Option ℕ) (m : Option (List ℕ)) → is_kept_name w cells (reverse_with k i m) ≡ true
    by k (Some i) (Some m) = refl
    by k (Some i) None = refl
    by k None m = refl

    at : (k : Option Kind) → is_kept_name w cells (reverse_by w k row value) ≡ true
    at None = refl
    at (Some k) = by k (id_spelled w k row) (name_spelled value)

not_ids : (p : Place) (t : Table) → p.row.table ≡ t → (table_number t ≡ 0 → ⊥) → IsOther p
not_ids p t is ne e = ne (ap table_number (sym is ∙ e))

module _ (w : Widths) (s : Store) (xs ys : List ListLine) (width : s.widths ≡ w) (is : xs ≡ lines_of s) (more : ys ≡ lines_of (store_in w (xs ++ reverse_cells w xs xs))) where
  found : (p : Place) → seen xs p ≡ held s p
  found p = ap (λ (ls : List ListLine). seen ls p) is ∙ seen_held s p

  ys_seen : (p : Place) → seen ys p ≡ first_of (held s p) (seen (reverse_cells w xs xs) p)
  ys_seen p =
      ap (λ (ls : List ListLine). seen ls p) more ∙ seen_held (store_in w (xs ++ reverse_cells w xs xs)) p ∙ seen_store w (xs ++ reverse_cells w xs xs) p
      ∙ seen_join xs (reverse_cells w xs xs) p ∙ ap (λ o. first_of o (seen (reverse_cells w xs xs) p)) (found p)

  others : (p : Place) → IsOther p → seen ys p ≡ held (with_names s) p
  others p other = ys_seen p ∙ same (held s p) refl ∙ sym (names_seen w s (entries s) p width other)
    where
      same : (o : Option (List ℕ)) → held s p ≡ o → first_of o (seen (reverse_cells w xs xs) p) ≡ first_of o (seen (all_given w (entries s)) p)
      same None none = ap (λ (ls : List ListLine). seen (reverse_cells w xs ls) p) is ∙ all_if w xs (entries s) p (found p ∙ none)
      same (Some v) e = refl

  of_ids : (p : Place) → p.row.table ≡ Ids → seen ys p ≡ held s p
  of_ids p ids = ys_seen p ∙ ap (first_of (held s p)) (none_given w xs xs p ids) ∙ first_none (held s p)

  alike : (u : Option UidCell) → is_kept_name w ys u ≡ has_own w (with_names s) u
  alike None = refl
  alike (Some (Counter k n)) = refl
  alike (Some (Reverse k i m)) = refl
  alike (Some (Forward k m i)) = ap (is_value m) (others (place_of (id_row w k i) (kind_qual k)) (not_ids (place_of (id_row w k i) (kind_qual k)) Names refl (λ e. omega (arith, e))))

  each : (p : Place) → stays_at (keeps_name w ys) p (seen ys p) ≡ held (with_names s) p
  each p = at p.row.table refl
    where
      by : (o : Option (List ℕ)) → stays_at (keeps_name w ys) p o ≡ stays_at (λ l. has_own w (with_names s) (uid_cell w l)) p o
      by None = refl
      by (Some v) = ap (λ b. cond b (Some v) None) (alike (uid_cell w (line_at p v)))

      keep : IsOther p → (o : Option (List ℕ)) → stays_at (keeps_name w ys) p o ≡ o
      keep other None = refl
      keep other (Some v) = ap (λ b. cond b (Some v) None) (kept_other w ys p.row.table p.row.bytes p.qual v other)

      at : (t : Table) → p.row.table ≡ t → stays_at (keeps_name w ys) p (seen ys p) ≡ held (with_names s) p
      at Ids e = ap (stays_at (keeps_name w ys) p) (of_ids p e) ∙ by (held s p) ∙ sym (ids_left w s p width e)
      at Names e = let other = not_ids p Names e (λ n. omega (arith, n)) in keep other (seen ys p) ∙ others p other
      at Points e = let other = not_ids p Points e (λ n. omega (arith, n)) in keep other (seen ys p) ∙ others p other

  pub third : filter (keeps_name w ys) ys ≡ lines_of (with_names s)
  third =
      filtered (keeps_name w ys) (store_in w (xs ++ reverse_cells w xs xs)) (with_names s) ys more
      (λ p. ap (stays_at (keeps_name w ys) p) (sym (seen_held (store_in w (xs ++ reverse_cells w xs xs)) p) ∙ sym (ap (λ (ls : List ListLine). seen ls p) more)) ∙ each p)
