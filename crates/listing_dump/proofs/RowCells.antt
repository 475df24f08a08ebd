-- The lines of a point row stand together, so they are its cells in the store of all lines.
use Rattle.std.proofs.Common.{◌≡◌, ◌⊎◌, inl, inr, ℕ, zero, suc, ◌-◌, ◌<◌, ◌≤◌, Bool, true, false, not, ◌&&◌, cond, List, get_or, refl, sym, ap, ◌∙◌, arith}
use Rattle.std.specs.Prelude.{Option, None, Some, map, filter, nat_eq}
use Rattle.std.specs.List.{slice_get}
use Rattle.std.specs.Ordering.{eq_by_cmp, is_eq, ordering_then}
use Rattle.std.specs.declared.cmp.Ordering.{Ordering}
use Rattle.std.specs.declared.cmp.Ordering.TheVariants.{Less, Equal, Greater}
use Rattle.std.specs.Cmp.{eq_by_cmp_equiv, tied_itself}
use Rattle.std.specs.Cmp.Lexicographic.{nat_list_cmp_total, texts_ties}
use Rattle.std.specs.FinMap.{nat_cmp-IsAntisymmetric, slice_cmp-IsAntisymmetric}
use Rattle.std.proofs.lemmas.Option.{slice_get-get_or, slice_get_within}
use Rattle.std.proofs.lemmas.Bool.{cases_lt}
use Rattle.list_lemmas.proofs.BoolTests.{both_true, is_equal, nat_eq_is, same_Some}
use Rattle.list_lemmas.specs.BytesOrder.{bytes_cmp}
use Rattle.row_key.specs.declared.tables.Table.{Table}
use Rattle.row_key.specs.declared.tables.Table.TheVariants.{Ids, Names, Points}
use Rattle.cell_model.specs.declared.row.Row.{Row}
use Rattle.cell_model.specs.declared.row.ListLine.{ListLine}
use Rattle.cell_model.specs.declared.row.Listing.{Listing}
use Rattle.cell_model.specs.declared.events.Place.{Place}
use Rattle.cell_model.specs.declared.events.Content.{Content}
use Rattle.cell_model.specs.Store.{cell_of, cells_of, place_cmp, row_cmp, same_bytes}
use Rattle.cell_model.specs.Readings.{point_row}
use Rattle.cell_model.specs.Rising.{LinesRise, place_of_line}
use Rattle.cell_model.specs.Listed.{entry_of_line, store_of}
use Rattle.cell_model.proofs.CallerLemmas.{exact_rows, rows_total}
use Rattle.listing_dump.specs.RowLines.{EndsRow, begins_row, cell_of_line, has_row, is_of_row, is_points, lines_between, row_before}
use Rattle.listing_dump.proofs.Filters.{between_kept, filter_map_same, pairs_get}
use Rattle.listing_dump.proofs.LineStores.{entries_are}

-- ---- lines of a row

pub same_is : (a b : List ℕ) → same_bytes a b ≡ true → a ≡ b
same_is a b e = slice_cmp-IsAntisymmetric nat_cmp-IsAntisymmetric a b (is_equal (bytes_cmp a b) (sym (texts_ties a b) ∙ e))

pub same_itself : (a : List ℕ) → same_bytes a a ≡ true
same_itself a = texts_ties a a ∙ ap is_eq (tied_itself nat_list_cmp_total a)

pub points_is : (t : Table) → is_points t ≡ true → t ≡ Points
points_is Ids e = cc
points_is Names e = cc
points_is Points e = refl

abbrev pub row_of : ListLine → Row
row_of l = record { table = l.table; bytes = l.row }

pub of_row_is : (row : List ℕ) (l : ListLine) → is_of_row row l ≡ true → (l.table ≡ Points) × (l.row ≡ row)
of_row_is row l e = let both = both_true (is_points l.table) (same_bytes l.row row) e in (points_is l.table both.0, same_is l.row row both.1)

row_is : (row : List ℕ) (l : ListLine) → is_of_row row l ≡ true → row_of l ≡ point_row row
row_is row l e = let w = of_row_is row l e in λ i. record { table = w.0 i; bytes = w.1 i }

pub is_row : (row : List ℕ) (l : ListLine) → l.table ≡ Points → l.row ≡ row → is_of_row row l ≡ true
is_row row l t r = ap (λ x. is_points x && same_bytes l.row row) t ∙ ap (λ x. same_bytes x row) r ∙ same_itself row

is_row_by : (row : List ℕ) (l : ListLine) → row_of l ≡ point_row row → is_of_row row l ≡ true
is_row_by row l e = is_row row l (ap (λ (r : Row). r.table) e) (ap (λ (r : Row). r.bytes) e)

-- the test of a row by its order
pub tested : (row : List ℕ) (l : ListLine) → eq_by_cmp row_cmp (point_row row) (row_of l) ≡ is_of_row row l
tested row l = at l.table
  where
    at : (t : Table) → eq_by_cmp row_cmp (point_row row) (record { table = t; bytes = l.row }) ≡ (is_points t && same_bytes l.row row)
    at Ids = refl
    at Names = refl
    at Points = sym (texts_ties l.row row ∙ (eq_by_cmp_equiv nat_list_cmp_total).symm l.row row)

-- ---- rows rise

less_first : (a b : Ordering) → ordering_then a b ≡ Less → (a ≡ Less) ⊎ (a ≡ Equal)
less_first Less b e = inl refl
less_first Equal b e = inr refl
less_first Greater b e = absurd cc

-- a line between two of one row is of this row
middle : (row : List ℕ) (a b c : ListLine) → place_cmp (place_of_line a) (place_of_line b) ≡ Less → place_cmp (place_of_line b) (place_of_line c) ≡ Less → is_of_row row a ≡ true → is_of_row row c ≡ true → is_of_row row b ≡ true
middle row a b c low high isa isc = at (less_first (row_cmp (row_of a) (row_of b)) _ low) (less_first (row_cmp (row_of b) (row_of c)) _ high)
  where
    at : (row_cmp (row_of a) (row_of b) ≡ Less) ⊎ (row_cmp (row_of a) (row_of b) ≡ Equal) → (row_cmp (row_of b) (row_of c) ≡ Less) ⊎ (row_cmp (row_of b) (row_of c) ≡ Equal) → is_of_row row b ≡ true
    at (inr e) _ = is_row_by row b (sym (exact_rows (row_of a) (row_of b) e) ∙ row_is row a isa)
    at (inl lt) (inr e) = is_row_by row b (exact_rows (row_of b) (row_of c) e ∙ row_is row c isc)
    at (inl lt) (inl more) =
        let far : row_cmp (row_of a) (row_of c) ≡ Less = rows_total.trans (row_of a) (row_of b) (row_of c) lt more in
        let same = row_is row a isa ∙ sym (row_is row c isc) in
        let tied : row_cmp (row_of a) (row_of c) ≡ Equal = ap (λ r. row_cmp r (row_of c)) same ∙ tied_itself rows_total (row_of c) in
        let w : Less ≡ Equal = sym far ∙ tied in absurd cc

pub less_at : (cells : List ListLine) → LinesRise cells → (i j : ℕ) (a b : ListLine) → slice_get cells i ≡ Some a → slice_get cells j ≡ Some b → i < j → place_cmp (place_of_line a) (place_of_line b) ≡ Less
less_at = pairs_get (λ (a b : ListLine). place_cmp (place_of_line a) (place_of_line b) ≡ Less)

false_true : false ≡ true → ⊥
false_true e = cc

true_false : (b : Bool) → b ≡ true → b ≡ false → ⊥
true_false b so nay = false_true (sym nay ∙ so)

not_false : (b : Bool) → (b ≡ true → ⊥) → b ≡ false
not_false true nay = absurd (nay refl)
not_false false nay = refl

-- no line of the row stands before the one on which it begins
pub none_before : (cells : List ListLine) → LinesRise cells → (from : ℕ) (c : ListLine) → slice_get cells from ≡ Some c → begins_row cells from c ≡ true → (i : ℕ) (x : ListLine) → i < from → slice_get cells i ≡ Some x → is_of_row c.row x ≡ false
none_before cells up from c isc begins i x lt isx = not_false (is_of_row c.row x) never
  where
    both : (is_points c.table ≡ true) × (not (row_before cells from c.row) ≡ true)
    both = both_true (is_points c.table) (not (row_before cells from c.row)) begins

    own : is_of_row c.row c ≡ true
    own = is_row c.row c (points_is c.table both.0) refl

    no_row : (b : Bool) → not b ≡ true → b ≡ false
    no_row true e = absurd (false_true e)
    no_row false e = refl

    last : ListLine
    last = get_or cells (from - 1) c

    is_last : slice_get cells (from - 1) ≡ Some last
    is_last = let w = slice_get_within cells from c isc in slice_get-get_or cells (from - 1) c (omega (arith, w))

    not_zero : nat_eq from 0 ≡ false
    not_zero = not_false (nat_eq from 0) (λ e. let z = nat_eq_is from 0 e in omega (arith, z, lt))

    last_not : is_of_row c.row last ≡ false
    last_not =
        sym (ap (has_row c.row) is_last) ∙ sym (ap (λ b. cond b false (has_row c.row (slice_get cells (from - 1)))) not_zero) ∙ no_row (row_before cells from c.row) both.1

    never : is_of_row c.row x ≡ true → ⊥
    never so = at (cases_lt i (from - 1))
      where
        at : (i < from - 1) ⊎ (from - 1 ≤ i) → ⊥
        at (inl low) = true_false (is_of_row c.row last) (middle c.row x last c (less_at cells up i (from - 1) x last isx is_last low) (less_at cells up (from - 1) from last c is_last isc (omega (arith, lt))) so own) last_not
        at (inr high) =
            let e : i ≡ from - 1 = omega (arith, lt, high) in
            let same : x ≡ last = same_Some x last (sym isx ∙ ap (slice_get cells) e ∙ is_last) in
            true_false (is_of_row c.row last) (sym (ap (is_of_row c.row) same) ∙ so) last_not

-- nor behind the one with which it ends
none_behind : (cells : List ListLine) → LinesRise cells → (from to : ℕ) (c : ListLine) → slice_get cells from ≡ Some c → is_points c.table ≡ true → EndsRow cells from to c.row → (i : ℕ) (x : ListLine) → to ≤ i → slice_get cells i ≡ Some x → is_of_row c.row x ≡ false
none_behind cells up from to c isc points ends i x le isx = not_false (is_of_row c.row x) never
  where
    next : ListLine
    next = get_or cells to c

    is_next : slice_get cells to ≡ Some next
    is_next = let w = slice_get_within cells i x isx in slice_get-get_or cells to c (omega (arith, w, le))

    next_not : is_of_row c.row next ≡ false
    next_not = sym (ap (has_row c.row) is_next) ∙ ends.end

    own : is_of_row c.row c ≡ true
    own = is_row c.row c (points_is c.table points) refl

    never : is_of_row c.row x ≡ true → ⊥
    never so = at (cases_lt to i)
      where
        at : (to < i) ⊎ (i ≤ to) → ⊥
        at (inl high) = true_false (is_of_row c.row next) (middle c.row c next x (less_at cells up from to c next isc is_next ends.later) (less_at cells up to i next x is_next isx high) own so) next_not
        at (inr low) =
            let e : i ≡ to = omega (arith, le, low) in
            let same : x ≡ next = same_Some x next (sym isx ∙ ap (slice_get cells) e ∙ is_next) in
            true_false (is_of_row c.row next) (sym (ap (is_of_row c.row) same) ∙ so) next_not

-- a row begins on a line of points
pub begins_points : (cells : List ListLine) (at : ℕ) (c : ListLine) → begins_row cells at c ≡ true → c.table ≡ Points
begins_points cells at c begins = points_is c.table (both_true (is_points c.table) (not (row_before cells at c.row)) begins).0

-- the cells of a row are its lines
pub cells_are : (l : Listing) → LinesRise l.lines → (from to : ℕ) (c : ListLine) → slice_get l.lines from ≡ Some c → begins_row l.lines from c ≡ true → EndsRow l.lines from to c.row
    → cells_of (store_of l) (point_row c.row) ≡ map cell_of_line (lines_between l.lines from to)
cells_are l up from to c isc begins ends =
    ap (λ (es : List (Place × Content)). map cell_of (filter (λ e. eq_by_cmp row_cmp (point_row c.row) e.0.row) es)) (entries_are l up)
    ∙ filter_map_same entry_of_line cell_of (λ (e : Place × Content). eq_by_cmp row_cmp (point_row c.row) e.0.row) (is_of_row c.row) (tested c.row) l.lines
    ∙ ap (map cell_of_line) (between_kept (is_of_row c.row) l.lines from to (let w = ends.later in omega (arith, w)) (λ i x low lt isx. ends.each i x low lt isx) out)
  where
    points : is_points c.table ≡ true
    points = (both_true (is_points c.table) (not (row_before l.lines from c.row)) begins).0

    out : (i : ℕ) (x : ListLine) → (i < from) ⊎ (to ≤ i) → slice_get l.lines i ≡ Some x → is_of_row c.row x ≡ false
    out i x (inl lt) isx = none_before l.lines up from c isc begins i x lt isx
    out i x (inr le) isx = none_behind l.lines up from to c isc points ends i x le isx

-- a row that has a line begins on one
pub row_begins : (cells : List ListLine) (row : List ℕ) (at : ℕ) (l : ListLine) → slice_get cells at ≡ Some l → is_of_row row l ≡ true → (first : ℕ) × (c : ListLine) × (slice_get cells first ≡ Some c) × (c.row ≡ row) × (begins_row cells first c ≡ true)
row_begins cells row zero l isl of =
    let w = of_row_is row l of in
    (zero, l, isl, w.1, ap (λ t. is_points t && true) w.0)
row_begins cells row (suc at) l isl of = by (has_row row (slice_get cells at)) refl (slice_get cells at) refl (row_begins cells row at)
  where
    w : (l.table ≡ Points) × (l.row ≡ row)
    w = of_row_is row l of

    begins : has_row row (slice_get cells at) ≡ false → begins_row cells (suc at) l ≡ true
    begins nay =
        ap (λ t. is_points t && not (row_before cells (suc at) l.row)) w.0
        ∙ ap not (ap (λ b. cond b false (has_row l.row (slice_get cells (suc at - 1)))) not_zero ∙ ap (λ n. has_row l.row (slice_get cells n)) (let e : suc at - 1 ≡ at = omega (arith) in e) ∙ ap (λ r. has_row r (slice_get cells at)) w.1 ∙ nay)
      where
        not_zero : nat_eq (suc at) 0 ≡ false
        not_zero = not_false (nat_eq (suc at) 0) (λ e. let z = nat_eq_is (suc at) 0 e in omega (arith, z))

    by : (b : Bool) → has_row row (slice_get cells at) ≡ b → (o : Option ListLine) → slice_get cells at ≡ o → ((m : ListLine) → slice_get cells at ≡ Some m → is_of_row row m ≡ true → (first : ℕ) × (c : ListLine) × (slice_get cells first ≡ Some c) × (c.row ≡ row) × (begins_row cells first c ≡ true)) → (first : ℕ) × (c : ListLine) × (slice_get cells first ≡ Some c) × (c.row ≡ row) × (begins_row cells first c ≡ true)
    by false nay o is go = (suc at, l, isl, w.1, begins nay)
    by true so None is go = absurd (false_true (sym (ap (has_row row) is) ∙ so))
    by true so (Some m) is go = go m is (sym (ap (has_row row) is) ∙ so)
