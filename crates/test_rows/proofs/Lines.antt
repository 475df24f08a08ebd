-- A store of lines that are sound is a base: what stands there is one of them.
use Rattle.std.proofs.Common.{◌≡◌, ◌≢◌, ℕ, ◌<◌, Bool, true, false, cond, List, [], ◌∷◌, length, drop, drop-cons, suc, refl, sym, ap, subst, ◌∙◌}
use Rattle.std.specs.Prelude.{Option, None, Some, option_map, map, Contains, All, slice_index_or}
use Rattle.std.proofs.lemmas.List.Elements.{All-contains_itself}
use Rattle.std.specs.Option.{option_map_or}
use Rattle.std.specs.Int.{w64, from_be_bytes}
use Rattle.std.specs.Ordering.{eq_by_cmp, is_eq}
use Rattle.std.specs.declared.cmp.Ordering.{Ordering}
use Rattle.std.specs.declared.cmp.Ordering.TheVariants.{Less, Equal, Greater}
use Rattle.std.specs.FinMap.{find, get-from_entries}
use Rattle.tsd_base.specs.declared.kinds.Kind.{Kind}
use Rattle.row_key.specs.declared.tables.Table.{Table}
use Rattle.row_key.specs.declared.tables.Table.TheVariants.{Ids, Points}
use Rattle.cell_model.specs.declared.row.Row.{Row}
use Rattle.cell_model.specs.declared.row.ListLine.{ListLine}
use Rattle.cell_model.specs.declared.row.Listing.{Listing}
use Rattle.cell_model.specs.declared.events.Place.{Place}
use Rattle.cell_model.specs.declared.events.Content.{Content}
use Rattle.cell_model.specs.Store.{Store, place_cmp, place_of, content_at, value_at}
use Rattle.cell_model.specs.Machine.{kind_qual, counter_row, counter_of}
use Rattle.cell_model.specs.IdRows.{name_row, reverse_row}
use Rattle.cell_model.specs.Rising.{place_of_line}
use Rattle.cell_model.specs.Listed.{entry_of_line, store_of}
use Rattle.cell_model.specs.Sound.{IsBase, IsCounter}
use Rattle.map_body.specs.Whole.{HasNoFlaw}
use Rattle.test_rows.specs.Bases.{IsSoundIn, IsSoundLine, line_value}
use Rattle.list_lemmas.proofs.ListMembers.{here, there as behind}
use Rattle.cell_model.proofs.CallerLemmas.{places_total, exact_places}

no_some : {A : Type 0} (x : A) → None ≢ Some x
no_some x e = cc

same_place : (p q : Place) → eq_by_cmp place_cmp p q ≡ true → p ≡ q
same_place p q is = exact_places p q (equal (place_cmp p q) is)
  where
    equal : (o : Ordering) → is_eq o ≡ true → o ≡ Equal
    equal Less e = cc
    equal Equal e = refl
    equal Greater e = cc

-- what stands in the store of some lines is one of them
record IsLine (lines : List ListLine) (p : Place) (c : Content) : Type 0 where
  line : ListLine
  among : Contains lines line
  place_is : p ≡ place_of_line line
  content_is : c ≡ (entry_of_line line).1

find_line : (lines : List ListLine) (p : Place) (c : Content) → find place_cmp p (map entry_of_line lines) ≡ Some c → IsLine lines p c
find_line [] p c is = absurd (no_some c is)
find_line (l ∷ lines) p c is = at (eq_by_cmp place_cmp p (place_of_line l)) refl is (find_line lines p c)
  where
    at : (b : Bool) → eq_by_cmp place_cmp p (place_of_line l) ≡ b → cond b (Some (entry_of_line l).1) (find place_cmp p (map entry_of_line lines)) ≡ Some c
        → (find place_cmp p (map entry_of_line lines) ≡ Some c → IsLine lines p c) → IsLine (l ∷ lines) p c
    at true same is go = record { line = l; among = here l lines; place_is = same_place p (place_of_line l) same; content_is = let e : (entry_of_line l).1 ≡ c = cc in sym e }
    at false other is go = let x = go is in record { line = x.line; among = behind l x.line lines x.among; place_is = x.place_is; content_is = x.content_is }

stands_in : (l : Listing) (row : Row) (qual : List ℕ) (c : Content) → content_at (store_of l) row qual ≡ Some c → IsLine l.lines (place_of row qual) c
stands_in l row qual c is = find_line l.lines (place_of row qual) c (sym (get-from_entries places_total (map entry_of_line l.lines) (place_of row qual)) ∙ is)

-- a value that stands there
record IsLineValue (lines : List ListLine) (row : Row) (qual value : List ℕ) : Type 0 where
  line : ListLine
  among : Contains lines line
  table_is : row.table ≡ line.table
  row_is : row.bytes ≡ line.row
  qual_is : qual ≡ line.qual
  value_is : value ≡ line.value

value_is_line : (lines : List ListLine) (row : Row) (qual value : List ℕ) (o : Option Content) → ((c : Content) → o ≡ Some c → IsLine lines (place_of row qual) c) → option_map (λ (c : Content). c.value) o ≡ Some value → IsLineValue lines row qual value
value_is_line lines row qual value None go is = absurd (no_some value is)
value_is_line lines row qual value (Some c) go is =
    let x = go c refl in
    let same : c.value ≡ value = cc in
    record {
      line = x.line;
      among = x.among;
      table_is = ap (λ (p : Place). p.row.table) x.place_is;
      row_is = ap (λ (p : Place). p.row.bytes) x.place_is;
      qual_is = ap (λ (p : Place). p.qual) x.place_is;
      value_is = sym same ∙ ap (λ (c : Content). c.value) x.content_is;
    }

value_stands : (l : Listing) (row : Row) (qual value : List ℕ) → value_at (store_of l) row qual ≡ Some value → IsLineValue l.lines row qual value
value_stands l row qual value is = value_is_line l.lines row qual value (content_at (store_of l) row qual) (stands_in l row qual) is

-- so it is sound as a line is
value_sound : (listing : Listing) (row : Row) (qual value : List ℕ) → ((l : ListLine) → Contains listing.lines l → IsSoundLine listing l) → value_at (store_of listing) row qual ≡ Some value → IsSoundIn listing row.table row.bytes qual value
value_sound listing row qual value sound is =
    let x = value_stands listing row qual value is in
    subst (λ (p : Table × List ℕ × List ℕ × List ℕ). IsSoundIn listing p.0 p.1 p.2 p.3) (λ i. (sym x.table_is i, sym x.row_is i, sym x.qual_is i, sym x.value_is i)) (sound x.line x.among)

pub lines_are_base : (listing : Listing) → ((l : ListLine) → Contains listing.lines l → IsSoundLine listing l) → IsBase (store_of listing)
lines_are_base listing sound = record {
  sound = record {
    counters = λ qual value there. (value_sound listing counter_row qual value sound there).0 refl;
    forward = λ name qual value other there. (value_sound listing (name_row name) qual value sound there).1 other;
    reverse = λ bytes qual name there. value_sound listing (reverse_row bytes) qual name sound there;
    rows = λ row qual value points there. absurd (no_point row qual value points there);
    cells = λ row qual value points there. absurd (no_point row qual value points there);
  };
  versions = λ row qual c there. ap (λ (d : Content). d.version) (stands_in listing row qual c there).content_is;
}
  where
    no_point : (row : Row) (qual value : List ℕ) → row.table ≡ Points → value_at (store_of listing) row qual ≡ Some value → ⊥
    no_point row qual value points there = subst (λ (t : Table). IsSoundIn listing t row.bytes qual value) points (value_sound listing row qual value sound there)

-- and none of its lines has a flaw
pub no_flaws : (listing : Listing) → ((l : ListLine) → Contains listing.lines l → IsSoundLine listing l) → All (HasNoFlaw listing.widths) listing.lines
no_flaws listing sound k d lt t r = at (slice_index_or listing.lines k d) t r (sound _ (All-contains_itself listing.lines k d lt))
  where
    at : (l : ListLine) → l.table ≡ Ids → l.row ≡ 0 ∷ [] → IsSoundLine listing l → IsCounter listing.widths l.qual l.value
    at l t r s = (subst (λ (x : Table). IsSoundIn listing x l.row l.qual l.value) t s).0 r

-- what is looked up among the lines
abbrev pub looked : List ListLine → Place → Option Content
looked lines p = find place_cmp p (map entry_of_line lines)

-- a line of another place is passed over
pub looked_on : (l : ListLine) (lines : List ListLine) (p : Place) → eq_by_cmp place_cmp p (place_of_line l) ≡ false → looked (l ∷ lines) p ≡ looked lines p
looked_on l lines p other = ap (λ b. cond b (Some (entry_of_line l).1) (looked lines p)) other

-- the line of the place is found
pub looked_at : (l : ListLine) (lines : List ListLine) (p : Place) → eq_by_cmp place_cmp p (place_of_line l) ≡ true → looked (l ∷ lines) p ≡ Some (entry_of_line l).1
looked_at l lines p same = ap (λ b. cond b (Some (entry_of_line l).1) (looked lines p)) same

-- so it is where those before it were passed over
pub found_at : (lines : List ListLine) (at : ℕ) (l : ListLine) (p : Place) (found : Bool) → at < length lines → l ≡ slice_index_or lines at l → looked lines p ≡ looked (drop at lines) p → found ≡ is_eq (place_cmp p (place_of_line l)) → found ≡ true → looked lines p ≡ Some (entry_of_line l).1
found_at lines at l p found within is on tested holds =
    on ∙ ap (λ (ls : List ListLine). looked ls p) (drop-cons lines at l within ∙ ap (λ (x : ListLine). x ∷ drop (suc at) lines) (sym is)) ∙ looked_at l (drop (suc at) lines) p (sym tested ∙ holds)

pub value_looked : (lines : List ListLine) (row : Row) (qual value : List ℕ) (l : ListLine) → looked lines (place_of row qual) ≡ Some (entry_of_line l).1 → value ≡ l.value → line_value lines row qual ≡ Some value
value_looked lines row qual value l is same =
    ap (option_map (λ (c : Content). c.value)) (get-from_entries places_total (map entry_of_line lines) (place_of row qual) ∙ is) ∙ ap Some (sym same)

-- a counter that was read
pub counter_read : (s : Store) (kind : Kind) (value : List ℕ) (number : ℕ) → value_at s counter_row (kind_qual kind) ≡ Some value → from_be_bytes w64 value ≡ number → counter_of s kind ≡ number
counter_read s kind value number is reads = ap (λ o. option_map_or (from_be_bytes w64) o 0) is ∙ reads
