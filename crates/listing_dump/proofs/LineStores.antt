-- The store of lines that rise: what stands at a place, and the cells of a row.
use Rattle.std.proofs.Common.{◌≡◌, ◌⊎◌, inl, inr, ℕ, ◌-◌, Bool, true, false, cond, List, [], ◌∷◌, refl, sym, ap, subst, ◌∙◌, T, arith}
use Rattle.std.specs.Prelude.{Some, option_map, map, AllPairs, Contains}
use Rattle.std.specs.Ordering.{eq_by_cmp, is_eq}
use Rattle.std.specs.declared.cmp.Ordering.{Ordering}
use Rattle.std.specs.declared.cmp.Ordering.TheVariants.{Less, Equal, Greater}
use Rattle.std.specs.FinMap.{find, from_entries, get-entries, get-from_entries, entries_sorted, is_sorted}
use Rattle.std.specs.FinMap.Entries.{same_entries}
use Rattle.std.specs.Cmp.{tied_itself}
use Rattle.list_lemmas.proofs.BoolTests.{is_equal, not_Some}
use Rattle.list_lemmas.proofs.EntryLemmas.{sorted_from_rising}
use Rattle.list_lemmas.proofs.ListMembers.{here, there, split, not_in, map_in, pairs_in, pairs_tail}
use Rattle.list_lemmas.proofs.ListParts.{pairs_cons}
use Rattle.cell_model.specs.declared.row.Row.{Row}
use Rattle.cell_model.specs.declared.row.ListLine.{ListLine}
use Rattle.cell_model.specs.declared.row.Listing.{Listing}
use Rattle.cell_model.specs.declared.events.Place.{Place}
use Rattle.cell_model.specs.declared.events.Content.{Content}
use Rattle.cell_model.specs.Store.{entries, place_cmp, place_of, value_at}
use Rattle.cell_model.specs.Rising.{LinesRise, place_of_line}
use Rattle.cell_model.specs.Listed.{entry_of_line, store_of}
use Rattle.cell_model.proofs.CallerLemmas.{places_total, exact_places}

-- what rises behind a function does so before it
pub rise_map : {X Y : Type 0} (f : X → Y) (R : Y → Y → Type 0) (xs : List X) → AllPairs (λ a b. R (f a) (f b)) xs → AllPairs R (map f xs)
rise_map f R [] up = λ i j d low lt. absurd (omega (arith, lt))
rise_map f R (x ∷ xs) up =
    pairs_cons R (f x) (map f xs) (λ y c. let w = map_in f xs y c in subst (R (f x)) w.2 (pairs_in (λ a b. R (f a) (f b)) x w.0 xs up w.1))
    (rise_map f R xs (pairs_tail (λ a b. R (f a) (f b)) x xs up))

module _ (l : Listing) (up : LinesRise l.lines) where
  abbrev pub es : List (Place × Content)
  es = map entry_of_line l.lines

  es_sorted : T (is_sorted place_cmp es)
  es_sorted = sorted_from_rising place_cmp es (rise_map entry_of_line (λ a b. place_cmp a.0 b.0 ≡ Less) l.lines up)

  -- the store's entries are the lines
  pub entries_are : entries (store_of l) ≡ es
  entries_are =
      same_entries place_cmp places_total exact_places (entries (store_of l)) es (entries_sorted (from_entries {R = place_cmp} es)) es_sorted
      (λ q. sym (get-entries (from_entries {R = place_cmp} es) q) ∙ get-from_entries places_total es q)

-- ---- what stands is a line

pub record IsLine (cells : List ListLine) (row : Row) (qual value : List ℕ) : Type 0 where
  pub line : ListLine
  pub among : Contains cells line
  pub place_is : place_of row qual ≡ place_of_line line
  pub value_is : line.value ≡ value

found_line : (cells : List ListLine) (row : Row) (qual value : List ℕ) → option_map (λ (c : Content). c.value) (find place_cmp (place_of row qual) (map entry_of_line cells)) ≡ Some value → IsLine cells row qual value
found_line [] row qual value is = absurd (not_Some value (sym is))
found_line (l ∷ cells) row qual value is = at (eq_by_cmp place_cmp (place_of row qual) (place_of_line l)) refl is (found_line cells row qual value)
  where
    at : (b : Bool) → eq_by_cmp place_cmp (place_of row qual) (place_of_line l) ≡ b → option_map (λ (c : Content). c.value) (cond b (Some (entry_of_line l).1) (find place_cmp (place_of row qual) (map entry_of_line cells))) ≡ Some value
        → (option_map (λ (c : Content). c.value) (find place_cmp (place_of row qual) (map entry_of_line cells)) ≡ Some value → IsLine cells row qual value) → IsLine (l ∷ cells) row qual value
    at true same is go = record { line = l; among = here l cells; place_is = exact_places (place_of row qual) (place_of_line l) (is_equal _ same); value_is = cc }
    at false other is go = let x = go is in record { line = x.line; among = there l x.line cells x.among; place_is = x.place_is; value_is = x.value_is }

pub line_there : (l : Listing) (row : Row) (qual value : List ℕ) → value_at (store_of l) row qual ≡ Some value → IsLine l.lines row qual value
line_there l row qual value is = found_line l.lines row qual value (sym (ap (option_map (λ (c : Content). c.value)) (get-from_entries places_total (map entry_of_line l.lines) (place_of row qual))) ∙ is)

-- ---- each line stands

not_tied : (p q : Place) (o : Ordering) → place_cmp q p ≡ Less → place_cmp p q ≡ o → is_eq o ≡ false
not_tied p q Less lt e = refl
not_tied p q Equal lt e = let same = exact_places p q e in let w : place_cmp p p ≡ Less = ap (λ x. place_cmp x p) same ∙ lt in let t : place_cmp p p ≡ Equal = tied_itself places_total p in cc
not_tied p q Greater lt e = refl

find_line : (cells : List ListLine) (l : ListLine) → LinesRise cells → Contains cells l → find place_cmp (place_of_line l) (map entry_of_line cells) ≡ Some (entry_of_line l).1
find_line [] l up c = absurd (not_in l c)
find_line (m ∷ cells) l up c = at (split m l cells c) (find_line cells l (pairs_tail (λ a b. place_cmp (place_of_line a) (place_of_line b) ≡ Less) m cells up))
  where
    at : (m ≡ l) ⊎ Contains cells l → (Contains cells l → find place_cmp (place_of_line l) (map entry_of_line cells) ≡ Some (entry_of_line l).1)
        → cond (eq_by_cmp place_cmp (place_of_line l) (place_of_line m)) (Some (entry_of_line m).1) (find place_cmp (place_of_line l) (map entry_of_line cells)) ≡ Some (entry_of_line l).1
    at (inl same) go =
        let tied : eq_by_cmp place_cmp (place_of_line l) (place_of_line m) ≡ true = ap (λ x. eq_by_cmp place_cmp (place_of_line l) (place_of_line x)) same ∙ ap is_eq (tied_itself places_total (place_of_line l)) in
        ap (λ b. cond b (Some (entry_of_line m).1) (find place_cmp (place_of_line l) (map entry_of_line cells))) tied ∙ ap (λ x. Some (entry_of_line x).1) same
    at (inr later) go =
        let low = pairs_in (λ a b. place_cmp (place_of_line a) (place_of_line b) ≡ Less) m l cells up later in
        ap (λ b. cond b (Some (entry_of_line m).1) (find place_cmp (place_of_line l) (map entry_of_line cells))) (not_tied (place_of_line l) (place_of_line m) (place_cmp (place_of_line l) (place_of_line m)) low refl) ∙ go later

pub line_stands : (l : Listing) (c : ListLine) → LinesRise l.lines → Contains l.lines c → value_at (store_of l) (record { table = c.table; bytes = c.row }) c.qual ≡ Some c.value
line_stands l c up among =
    ap (option_map (λ (x : Content). x.value)) (get-from_entries places_total (map entry_of_line l.lines) (place_of_line c))
    ∙ ap (option_map (λ (x : Content). x.value)) (find_line l.lines c up among)
