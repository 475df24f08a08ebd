-- Cells that are the lines of a store, by what is looked up among them.
use Rattle.std.proofs.Common.{◌≡◌, ◌≢◌, Bool, true, false, cond, List, [], ◌∷◌, ◌++◌, refl, sym, ap, ◌∙◌}
use Rattle.std.specs.Prelude.{ℕ, Option, None, Some, option_map, map, filter, Contains, if◌then◌else◌}
use Rattle.std.specs.Ordering.{eq_by_cmp, is_eq}
use Rattle.std.specs.Cmp.{tied_itself}
use Rattle.std.specs.declared.cmp.Ordering.TheVariants.{Less, Equal}
use Rattle.std.specs.FinMap.{find, get-entries, get-from_entries}
use Rattle.std.specs.FinMap.Entries.{same_entries}
use Rattle.list_lemmas.proofs.BoolTests.{is_equal}
use Rattle.list_lemmas.proofs.EntryLemmas.{sorted_from_rising}
use Rattle.list_lemmas.proofs.ListMembers.{pairs_in, pairs_tail}
use Rattle.list_lemmas.proofs.ListParts.{in_filter, pairs_cons}
use Rattle.cell_model.specs.declared.row.ListLine.{ListLine}
use Rattle.cell_model.specs.declared.events.Place.{Place}
use Rattle.cell_model.specs.declared.events.Content.{Content}
use Rattle.cell_model.specs.KindWidths.{Widths}
use Rattle.cell_model.specs.PlaceOrder.{place_cmp}
use Rattle.cell_model.specs.Store.{Store, entries, get}
use Rattle.cell_model.specs.Counts.{line_of, lines_of}
use Rattle.cell_model.specs.Rising.{LinesRise, place_of_line}
use Rattle.cell_model.specs.Listed.{entry_of_line}
use Rattle.cell_model.proofs.CallerLemmas.{places_total, exact_places}
use Rattle.listing_check.specs.Laws.{store_in}
use Rattle.listing_check.proofs.CallerLemmas.{none_found}
use Rattle.listing_fix.specs.Fixes.{reads_at, without_unread}
use Rattle.listing_fix.specs.Steps.{reads}
use Rattle.listing_fix.proofs.NameFolds.{held}
use Rattle.listing_fix.proofs.Mending.{Before, find_told, kept_unread, lines_rise}
use Rattle.listing_fix.proofs.Sorting.{rising_entries, same_lines}

-- the value that is found at a place
abbrev pub seen : List ListLine → Place → Option (List ℕ)
seen cells p = option_map (λ (c : Content). c.value) (find place_cmp p (map entry_of_line cells))

pub seen_held : (s : Store) (p : Place) → seen (lines_of s) p ≡ held s p
seen_held s p = find_told (entries s) p ∙ ap (option_map (λ (c : Content). c.value)) (sym (get-entries s.cells p))

pub seen_store : (w : Widths) (cells : List ListLine) (p : Place) → held (store_in w cells) p ≡ seen cells p
seen_store w cells p = ap (option_map (λ (c : Content). c.value)) (get-from_entries places_total (map entry_of_line cells) p)

found_plain : (cells : List ListLine) (p : Place) → find place_cmp p (map entry_of_line cells) ≡ option_map (λ (v : List ℕ). record { value = v; version = 0 }) (seen cells p)
found_plain [] p = refl
found_plain (l ∷ cells) p = at (eq_by_cmp place_cmp p (place_of_line l)) (found_plain cells p)
  where
    at : (b : Bool) → find place_cmp p (map entry_of_line cells) ≡ option_map (λ (v : List ℕ). record { value = v; version = 0 }) (seen cells p)
        → cond b (Some (entry_of_line l).1) (find place_cmp p (map entry_of_line cells)) ≡ option_map (λ (v : List ℕ). record { value = v; version = 0 }) (option_map (λ (c : Content). c.value) (cond b (Some (entry_of_line l).1) (find place_cmp p (map entry_of_line cells))))
    at true e = refl
    at false e = e

-- cells that rise are known by what is found at each place
pub same_cells : (xs ys : List ListLine) → LinesRise xs → LinesRise ys → ((p : Place) → seen xs p ≡ seen ys p) → xs ≡ ys
same_cells xs ys up vp alike =
    sym (same_lines xs)
    ∙ ap (map line_of) (same_entries place_cmp places_total exact_places (map entry_of_line xs) (map entry_of_line ys) (sorted_from_rising place_cmp (map entry_of_line xs) (rising_entries xs up)) (sorted_from_rising place_cmp (map entry_of_line ys) (rising_entries ys vp))
    (λ p. found_plain xs p ∙ ap (option_map (λ (v : List ℕ). record { value = v; version = 0 })) (alike p) ∙ sym (found_plain ys p)))
    ∙ same_lines ys

pub lines_by : (s : Store) (xs : List ListLine) → LinesRise xs → ((p : Place) → seen xs p ≡ held s p) → xs ≡ lines_of s
lines_by s xs up e = same_cells xs (lines_of s) up (lines_rise s) (λ p. e p ∙ sym (seen_held s p))

-- ---- a place alone

pub tied_place : (p q : Place) → p ≡ q → eq_by_cmp place_cmp p q ≡ true
tied_place p q e = ap (λ x. eq_by_cmp place_cmp p x) (sym e) ∙ ap is_eq (tied_itself places_total p)

pub other_place : (p q : Place) → p ≢ q → eq_by_cmp place_cmp p q ≡ false
other_place p q ne = at (eq_by_cmp place_cmp p q) refl
  where
    at : (b : Bool) → eq_by_cmp place_cmp p q ≡ b → b ≡ false
    at true e = absurd (ne (exact_places p q (is_equal _ e)))
    at false e = refl

pub seen_here : (l : ListLine) (cells : List ListLine) (p : Place) → p ≡ place_of_line l → seen (l ∷ cells) p ≡ Some l.value
seen_here l cells p e = ap (λ b. option_map (λ (c : Content). c.value) (cond b (Some (entry_of_line l).1) (find place_cmp p (map entry_of_line cells)))) (tied_place p (place_of_line l) e)

pub seen_past : (l : ListLine) (cells : List ListLine) (p : Place) → p ≢ place_of_line l → seen (l ∷ cells) p ≡ seen cells p
seen_past l cells p ne = ap (λ b. option_map (λ (c : Content). c.value) (cond b (Some (entry_of_line l).1) (find place_cmp p (map entry_of_line cells)))) (other_place p (place_of_line l) ne)

-- a place before all is not found
pub seen_before : (l : ListLine) (cells : List ListLine) → ((m : ListLine) → Contains cells m → Before l m) → (p : Place) → p ≡ place_of_line l → seen cells p ≡ None
seen_before l cells below p e = ap (option_map (λ (c : Content). c.value)) (none_found p cells each)
  where
    each : (m : ListLine) → Contains cells m → place_cmp (place_of_line m) p ≡ Equal → ⊥
    each m c same =
        let is : place_of_line m ≡ place_of_line l = exact_places (place_of_line m) p same ∙ e in
        let lt : place_cmp (place_of_line l) (place_of_line l) ≡ Less = ap (place_cmp (place_of_line l)) (sym is) ∙ below m c in
        let t : place_cmp (place_of_line l) (place_of_line l) ≡ Equal = tied_itself places_total (place_of_line l) in
        let w : Less ≡ Equal = sym lt ∙ t in
        absurd cc

-- ---- one list behind another

abbrev pub first_of : Option (List ℕ) → Option (List ℕ) → Option (List ℕ)
first_of None b = b
first_of (Some a) b = Some a

pub first_none : (o : Option (List ℕ)) → first_of o None ≡ o
first_none None = refl
first_none (Some v) = refl

pub first_first : (a b c : Option (List ℕ)) → first_of (first_of a b) c ≡ first_of a (first_of b c)
first_first None b c = refl
first_first (Some v) b c = refl

pub seen_join : (xs ys : List ListLine) (p : Place) → seen (xs ++ ys) p ≡ first_of (seen xs p) (seen ys p)
seen_join [] ys p = refl
seen_join (l ∷ xs) ys p = at (eq_by_cmp place_cmp p (place_of_line l)) (seen_join xs ys p)
  where
    at : (b : Bool) → seen (xs ++ ys) p ≡ first_of (seen xs p) (seen ys p)
        → option_map (λ (c : Content). c.value) (cond b (Some (entry_of_line l).1) (find place_cmp p (map entry_of_line (xs ++ ys)))) ≡ first_of (option_map (λ (c : Content). c.value) (cond b (Some (entry_of_line l).1) (find place_cmp p (map entry_of_line xs)))) (seen ys p)
    at true e = refl
    at false e = e

-- ---- cells that stay

abbrev pub line_at : Place → List ℕ → ListLine
line_at p v = record { table = p.row.table; row = p.row.bytes; qual = p.qual; value = v }

-- what stands at a place, if its cell stays
abbrev pub stays_at : (ListLine → Bool) → Place → Option (List ℕ) → Option (List ℕ)
stays_at f p None = None
stays_at f p (Some v) = if f (line_at p v) then Some v else None

pub filter_rise : (f : ListLine → Bool) (xs : List ListLine) → LinesRise xs → LinesRise (filter f xs)
filter_rise f [] up = up
filter_rise f (l ∷ xs) up = at (f l) (filter_rise f xs (pairs_tail Before l xs up))
  where
    at : (b : Bool) → LinesRise (filter f xs) → LinesRise (cond b (l ∷ filter f xs) (filter f xs))
    at true r = pairs_cons Before l (filter f xs) (λ m c. pairs_in Before l m xs up (in_filter f xs m c).0) r
    at false r = r

filter_step : (f : ListLine → Bool) (l : ListLine) (xs : List ListLine) (p : Place) → ((m : ListLine) → Contains xs m → Before l m) → seen (filter f xs) p ≡ stays_at f p (seen xs p) → seen (filter f (l ∷ xs)) p ≡ stays_at f p (seen (l ∷ xs) p)
filter_step f l xs p below go = at (eq_by_cmp place_cmp p (place_of_line l)) refl (f l) refl
  where
    head : (b : Bool) → eq_by_cmp place_cmp p (place_of_line l) ≡ b → seen (l ∷ filter f xs) p ≡ option_map (λ (c : Content). c.value) (cond b (Some (entry_of_line l).1) (find place_cmp p (map entry_of_line (filter f xs))))
    head b e = ap (λ b. option_map (λ (c : Content). c.value) (cond b (Some (entry_of_line l).1) (find place_cmp p (map entry_of_line (filter f xs))))) e

    is : eq_by_cmp place_cmp p (place_of_line l) ≡ true → p ≡ place_of_line l
    is e = exact_places p (place_of_line l) (is_equal _ e)

    tests : eq_by_cmp place_cmp p (place_of_line l) ≡ true → f (line_at p l.value) ≡ f l
    tests e = ap (λ (x : Place). f (line_at x l.value)) (is e)

    none : eq_by_cmp place_cmp p (place_of_line l) ≡ true → seen (filter f xs) p ≡ None
    none e = seen_before l (filter f xs) (λ m c. below m (in_filter f xs m c).0) p (is e)

    at : (b : Bool) → eq_by_cmp place_cmp p (place_of_line l) ≡ b → (t : Bool) → f l ≡ t → seen (cond t (l ∷ filter f xs) (filter f xs)) p ≡ stays_at f p (option_map (λ (c : Content). c.value) (cond b (Some (entry_of_line l).1) (find place_cmp p (map entry_of_line xs))))
    at true e true t = head true e ∙ sym (ap (λ b. cond b (Some l.value) None) (tests e ∙ t))
    at true e false t = none e ∙ sym (ap (λ b. cond b (Some l.value) None) (tests e ∙ t))
    at false e true t = head false e ∙ go
    at false e false t = go

pub filter_seen : (f : ListLine → Bool) (xs : List ListLine) → LinesRise xs → (p : Place) → seen (filter f xs) p ≡ stays_at f p (seen xs p)
filter_seen f [] up p = refl
filter_seen f (l ∷ xs) up p = filter_step f l xs p (λ m c. pairs_in Before l m xs up c) (filter_seen f xs (pairs_tail Before l xs up) p)

-- what a filter leaves of the lines of a store
pub filtered : (f : ListLine → Bool) (s t : Store) (xs : List ListLine) → xs ≡ lines_of s → ((p : Place) → stays_at f p (held s p) ≡ held t p) → filter f xs ≡ lines_of t
filtered f s t xs e alike =
    ap (filter f) e ∙ lines_by t (filter f (lines_of s)) (filter_rise f (lines_of s) (lines_rise s)) (λ p. filter_seen f (lines_of s) (lines_rise s) p ∙ ap (stays_at f p) (seen_held s p) ∙ alike p)

-- ---- the second change

read_stays : (s : Store) (p : Place) → stays_at (reads s.widths) p (held s p) ≡ held (without_unread s) p
read_stays s p = at (get s p) ∙ sym (ap (option_map (λ (c : Content). c.value)) (kept_unread s p))
  where
    by : (b : Bool) (c : Content) → cond b (Some c.value) None ≡ option_map (λ (c : Content). c.value) (cond b (Some c) None)
    by true c = refl
    by false c = refl

    at : (o : Option Content) → stays_at (reads s.widths) p (option_map (λ (c : Content). c.value) o) ≡ option_map (λ (c : Content). c.value) (cond (reads_at s.widths p o) o None)
    at None = refl
    at (Some c) = by (reads_at s.widths p (Some c)) c

pub second : (w : Widths) (s : Store) (xs new : List ListLine) → s.widths ≡ w → xs ≡ lines_of s → new ≡ filter (reads w) xs → new ≡ lines_of (without_unread s)
second w s xs new width e is = is ∙ ap (λ (v : Widths). filter (reads v) xs) (sym width) ∙ filtered (reads s.widths) s (without_unread s) xs e (read_stays s)
