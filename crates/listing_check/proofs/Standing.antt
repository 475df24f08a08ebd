-- What stands in the store of cells is one of them, and of cells that rise each stands.
use Rattle.std.proofs.Common.{◌≡◌, ◌⊎◌, inl, inr, ℕ, Bool, true, false, cond, List, [], ◌∷◌, refl, sym, ap, subst, ◌∙◌}
use Rattle.std.specs.Prelude.{Option, None, Some, option_map, map, Contains}
use Rattle.std.specs.Ordering.{eq_by_cmp, is_eq}
use Rattle.std.specs.declared.cmp.Ordering.{Ordering}
use Rattle.std.specs.declared.cmp.Ordering.TheVariants.{Less, Equal, Greater}
use Rattle.std.specs.Cmp.{tied_itself}
use Rattle.std.specs.FinMap.{find, get-from_entries}
use Rattle.row_key.specs.declared.tables.Table.{Table}
use Rattle.cell_model.specs.declared.row.Row.{Row}
use Rattle.cell_model.specs.declared.row.ListLine.{ListLine}
use Rattle.cell_model.specs.declared.events.Place.{Place}
use Rattle.cell_model.specs.declared.events.Content.{Content}
use Rattle.cell_model.specs.Store.{place_cmp, place_of, content_at, value_at}
use Rattle.cell_model.specs.Rising.{LinesRise, place_of_line}
use Rattle.cell_model.specs.KindWidths.{Widths}
use Rattle.cell_model.specs.Listed.{entry_of_line}
use Rattle.listing_check.specs.Flaws.{value_in}
use Rattle.listing_check.specs.Laws.{store_in}
use Rattle.list_lemmas.proofs.ListMembers.{here, there, split, not_in, pairs_in, pairs_tail}
use Rattle.list_lemmas.proofs.BoolTests.{is_equal, not_Some}
use Rattle.cell_model.proofs.CallerLemmas.{places_total, exact_places}

-- what is looked up among cells is what stands in their store
pub value_same : (w : Widths) (cells : List ListLine) (row : Row) (qual : List ℕ) → value_at (store_in w cells) row qual ≡ value_in cells row qual
value_same w cells row qual = ap (option_map (λ (c : Content). c.value)) (get-from_entries places_total (map entry_of_line cells) (place_of row qual))

-- ---- what stands is a cell

pub record IsCell (cells : List ListLine) (p : Place) (c : Content) : Type 0 where
  pub line : ListLine
  pub among : Contains cells line
  pub place_is : p ≡ place_of_line line
  pub content_is : c ≡ (entry_of_line line).1

find_line : (cells : List ListLine) (p : Place) (c : Content) → find place_cmp p (map entry_of_line cells) ≡ Some c → IsCell cells p c
find_line [] p c is = absurd (not_Some c (sym is))
find_line (l ∷ cells) p c is = at (eq_by_cmp place_cmp p (place_of_line l)) refl is (find_line cells p c)
  where
    at : (b : Bool) → eq_by_cmp place_cmp p (place_of_line l) ≡ b → cond b (Some (entry_of_line l).1) (find place_cmp p (map entry_of_line cells)) ≡ Some c
        → (find place_cmp p (map entry_of_line cells) ≡ Some c → IsCell cells p c) → IsCell (l ∷ cells) p c
    at true same is go = record { line = l; among = here l cells; place_is = exact_places p (place_of_line l) (is_equal _ same); content_is = let e : (entry_of_line l).1 ≡ c = cc in sym e }
    at false other is go = let x = go is in record { line = x.line; among = there l x.line cells x.among; place_is = x.place_is; content_is = x.content_is }

pub stands : (w : Widths) (cells : List ListLine) (row : Row) (qual : List ℕ) (c : Content) → content_at (store_in w cells) row qual ≡ Some c → IsCell cells (place_of row qual) c
stands w cells row qual c is = find_line cells (place_of row qual) c (sym (get-from_entries places_total (map entry_of_line cells) (place_of row qual)) ∙ is)

pub record IsValue (cells : List ListLine) (row : Row) (qual value : List ℕ) : Type 0 where
  pub line : ListLine
  pub among : Contains cells line
  pub table_is : line.table ≡ row.table
  pub row_is : line.row ≡ row.bytes
  pub qual_is : line.qual ≡ qual
  pub value_is : line.value ≡ value

value_at_line : (cells : List ListLine) (row : Row) (qual value : List ℕ) (o : Option Content) → ((c : Content) → o ≡ Some c → IsCell cells (place_of row qual) c) → option_map (λ (c : Content). c.value) o ≡ Some value → IsValue cells row qual value
value_at_line cells row qual value None go is = absurd (not_Some value (sym is))
value_at_line cells row qual value (Some c) go is =
    let x = go c refl in
    let same : c.value ≡ value = cc in
    record {
      line = x.line;
      among = x.among;
      table_is = sym (ap (λ (p : Place). p.row.table) x.place_is);
      row_is = sym (ap (λ (p : Place). p.row.bytes) x.place_is);
      qual_is = sym (ap (λ (p : Place). p.qual) x.place_is);
      value_is = sym (ap (λ (c : Content). c.value) x.content_is) ∙ same;
    }

pub value_stands : (w : Widths) (cells : List ListLine) (row : Row) (qual value : List ℕ) → value_at (store_in w cells) row qual ≡ Some value → IsValue cells row qual value
value_stands w cells row qual value is = value_at_line cells row qual value (content_at (store_in w cells) row qual) (stands w cells row qual) is

-- so what holds of each cell by its parts holds of what stands
pub holds_there : (w : Widths) (P : Table → List ℕ → List ℕ → List ℕ → Type 0) (cells : List ListLine) → ((l : ListLine) → Contains cells l → P l.table l.row l.qual l.value)
    → (row : Row) (qual value : List ℕ) → value_at (store_in w cells) row qual ≡ Some value → P row.table row.bytes qual value
holds_there w P cells all row qual value is =
    let x = value_stands w cells row qual value is in
    subst (λ (p : Table × List ℕ × List ℕ × List ℕ). P p.0 p.1 p.2 p.3) (λ i. (x.table_is i, x.row_is i, x.qual_is i, x.value_is i)) (all x.line x.among)

-- ---- cells that rise stand

less_not_eq : (o : Ordering) → o ≡ Less → is_eq o ≡ false
less_not_eq Less e = refl
less_not_eq Equal e = cc
less_not_eq Greater e = cc

flip_not_eq : (p q : Place) → place_cmp q p ≡ Less → eq_by_cmp place_cmp p q ≡ false
flip_not_eq p q lt = at (eq_by_cmp place_cmp p q) refl
  where
    at : (b : Bool) → eq_by_cmp place_cmp p q ≡ b → b ≡ false
    at true e = let same = exact_places p q (is_equal _ e) in let w : place_cmp p p ≡ Less = ap (λ x. place_cmp x p) same ∙ lt in let t : place_cmp p p ≡ Equal = tied_itself places_total p in cc
    at false e = refl

pub rising_find : (cells : List ListLine) (l : ListLine) → LinesRise cells → Contains cells l → find place_cmp (place_of_line l) (map entry_of_line cells) ≡ Some (entry_of_line l).1
rising_find [] l up c = absurd (not_in l c)
rising_find (m ∷ cells) l up c = at (split m l cells c) (rising_find cells l (pairs_tail (λ a b. place_cmp (place_of_line a) (place_of_line b) ≡ Less) m cells up))
  where
    at : (m ≡ l) ⊎ Contains cells l → (Contains cells l → find place_cmp (place_of_line l) (map entry_of_line cells) ≡ Some (entry_of_line l).1)
        → cond (eq_by_cmp place_cmp (place_of_line l) (place_of_line m)) (Some (entry_of_line m).1) (find place_cmp (place_of_line l) (map entry_of_line cells)) ≡ Some (entry_of_line l).1
    at (inl same) go =
        let tied : eq_by_cmp place_cmp (place_of_line l) (place_of_line m) ≡ true = ap (λ x. eq_by_cmp place_cmp (place_of_line l) (place_of_line x)) same ∙ ap is_eq (tied_itself places_total (place_of_line l)) in
        ap (λ b. cond b (Some (entry_of_line m).1) (find place_cmp (place_of_line l) (map entry_of_line cells))) tied ∙ ap (λ x. Some (entry_of_line x).1) same
    at (inr later) go =
        let low = pairs_in (λ a b. place_cmp (place_of_line a) (place_of_line b) ≡ Less) m l cells up later in
        ap (λ b. cond b (Some (entry_of_line m).1) (find place_cmp (place_of_line l) (map entry_of_line cells))) (flip_not_eq (place_of_line l) (place_of_line m) low) ∙ go later

pub each_stands : (w : Widths) (cells : List ListLine) (l : ListLine) → LinesRise cells → Contains cells l → value_at (store_in w cells) (record { table = l.table; bytes = l.row }) l.qual ≡ Some l.value
each_stands w cells l up c =
    value_same w cells (record { table = l.table; bytes = l.row }) l.qual ∙ ap (option_map (λ (c : Content). c.value)) (rising_find cells l up c)

-- no cell has a version
pub unversioned : (w : Widths) (cells : List ListLine) (row : Row) (qual : List ℕ) (c : Content) → content_at (store_in w cells) row qual ≡ Some c → c.version ≡ 0
unversioned w cells row qual c is = ap (λ (d : Content). d.version) (stands w cells row qual c is).content_is
