-- What a next row of a table says of the rows of a store.
use Rattle.std.proofs.Common.{◌≡◌, ◌⊎◌, inl, inr, ℕ, Bool, true, false, cond, not, ◌&&◌, T, List, [], ◌∷◌, append_assoc, refl, sym, ap, subst, ◌∙◌}
use Rattle.std.specs.Prelude.{Option, None, Some, option_map, find}
use Rattle.std.specs.declared.cmp.Ordering.{Ordering}
use Rattle.std.specs.declared.cmp.Ordering.TheVariants.{Less, Equal, Greater}
use Rattle.std.specs.Ordering.{nat_cmp, ordering_then, eq_by_cmp, is_lt}
use Rattle.std.specs.Cmp.{tied_itself}
use Rattle.std.specs.Cmp.Lexicographic.{nat_list_cmp_total}
use Rattle.std.specs.FinMap.{get-entries, entries_sorted, is_sorted}
use Rattle.std.specs.FinMap as fin
use Rattle.std.specs.FinMap.Entries.{below_all}
use Rattle.row_key.specs.declared.tables.Table.{Table}
use Rattle.row_key.specs.declared.tables.Table.TheVariants.{Ids, Names, Points}
use Rattle.row_key.specs.declared.widths.Widths.{Widths}
use Rattle.cell_model.specs.declared.row.Row.{Row}
use Rattle.cell_model.specs.declared.row.Found.{Found}
use Rattle.cell_model.specs.declared.events.Place.{Place}
use Rattle.cell_model.specs.declared.events.Content.{Content}
use Rattle.cell_model.specs.Ranges.{InOneRange, IsWithin, SameMetric}
use Rattle.cell_model.specs.Store.{Store, entries, place_cmp, row_cmp, place_of, table_number, content_at, value_at, cells_of, next_row_of, is_between}
use Rattle.cell_model.proofs.CallerLemmas.{rows_total, exact_places, exact_rows}
use Rattle.list_lemmas.specs.BytesOrder.{bytes_cmp}
use Rattle.list_lemmas.proofs.BoolTests.{T_left, T_right, T_less, both_true, is_equal, not_Some}
use Rattle.list_lemmas.proofs.OrderedBytes.{behind, below_behind, from_on_from_on, less_behind, prefix_between}
use Rattle.listing_print.proofs.RowOrder.{not_back}
use Rattle.listing_print.proofs.RowLines.{Gap}

lt_less : (r : Ordering) → is_lt r ≡ true → r ≡ Less
lt_less Less e = refl
lt_less Equal e = cc
lt_less Greater e = cc

not_itself : (b : Row) → is_lt (row_cmp b b) ≡ false
not_itself b = ap is_lt (tied_itself rows_total b)

row_itself : (r : Row) → is_lt (row_cmp r r) ≡ true → ⊥
row_itself r e = let k = not_itself r in cc

-- ---- the entry that is found

-- a value stands there with some version
record HasContent (o : Option Content) : Type 0 where
  content : Content
  is : o ≡ Some content

has_content : (o : Option Content) (value : List ℕ) → option_map (λ (c : Content). c.value) o ≡ Some value → HasContent o
has_content None value e = absurd (not_Some value (sym e))
has_content (Some c) value e = record { content = c; is = refl }

tail_above : (x p : Place) (c : Content) (es : List (Place × Content)) → T (below_all place_cmp x es) → fin.find place_cmp p es ≡ Some c → place_cmp x p ≡ Less
tail_above x p c [] b is = absurd (not_Some c (sym is))
tail_above x p c (e ∷ es) b is = at (eq_by_cmp place_cmp p e.0) refl is (tail_above x p c es (T_right _ _ b))
  where
    at : (t : Bool) → eq_by_cmp place_cmp p e.0 ≡ t → cond t (Some e.1) (fin.find place_cmp p es) ≡ Some c → (fin.find place_cmp p es ≡ Some c → place_cmp x p ≡ Less) → place_cmp x p ≡ Less
    at true t is go = subst (λ (q : Place). place_cmp x q ≡ Less) (sym (exact_places p e.0 (is_equal _ t))) (T_less _ (T_left _ _ b))
    at false t is go = go is

-- the entry found is at this place's row or before it
abbrev FirstOf : Place → Option (Place × Content) → Type 0
FirstOf p None = ⊥
FirstOf p (Some e) = (p.row ≡ e.0.row) ⊎ (place_cmp e.0 p ≡ Less)

first_hit : (test : Row → Bool) (p : Place) (c : Content) (es : List (Place × Content)) → T (is_sorted place_cmp es) → fin.find place_cmp p es ≡ Some c → test p.row ≡ true → FirstOf p (find (λ (e : Place × Content). test e.0.row) es)
first_hit test p c [] s is t = absurd (not_Some c (sym is))
first_hit test p c (e ∷ es) s is t = at (test e.0.row) refl (eq_by_cmp place_cmp p e.0) refl is (λ i. first_hit test p c es (T_right _ _ s) i t)
  where
    at : (u : Bool) → test e.0.row ≡ u → (v : Bool) → eq_by_cmp place_cmp p e.0 ≡ v → cond v (Some e.1) (fin.find place_cmp p es) ≡ Some c → (fin.find place_cmp p es ≡ Some c → FirstOf p (find (λ (x : Place × Content). test x.0.row) es)) → FirstOf p (cond u (Some e) (find (λ (x : Place × Content). test x.0.row) es))
    at true u true v is go = inl (ap (λ (q : Place). q.row) (exact_places p e.0 (is_equal _ v)))
    at true u false v is go = inr (tail_above e.0 p c es (T_left _ _ s) is)
    at false u true v is go = let same = ap (λ (q : Place). test q.row) (exact_places p e.0 (is_equal _ v)) in cc
    at false u false v is go = go is

find_passes : (test : Row → Bool) (es : List (Place × Content)) (x : Place × Content) → find (λ (e : Place × Content). test e.0.row) es ≡ Some x → test x.0.row ≡ true
find_passes test [] x is = absurd (not_Some x (sym is))
find_passes test (e ∷ es) x is = at (test e.0.row) refl is (find_passes test es x)
  where
    at : (u : Bool) → test e.0.row ≡ u → cond u (Some e) (find (λ (y : Place × Content). test y.0.row) es) ≡ Some x → (find (λ (y : Place × Content). test y.0.row) es ≡ Some x → test x.0.row ≡ true) → test x.0.row ≡ true
    at true u is go = let same : e ≡ x = cc in ap (λ (y : Place × Content). test y.0.row) (sym same) ∙ u
    at false u is go = go is

-- ---- rows between two of one table

-- a row of the table from one on and before another
pub record Between (table : Table) (from to : List ℕ) (row : Row) : Type 0 where
  pub in_table : row.table ≡ table
  pub from_on : is_lt (bytes_cmp row.bytes from) ≡ false
  pub below : is_lt (bytes_cmp row.bytes to) ≡ true

not_true : (b : Bool) → not b ≡ true → b ≡ false
not_true true e = cc
not_true false e = refl

same_table : (s t : Table) → eq_by_cmp nat_cmp (table_number s) (table_number t) ≡ true → t ≡ s
same_table Ids Ids e = refl
same_table Names Names e = refl
same_table Points Points e = refl
same_table Ids Names e = cc
same_table Ids Points e = cc
same_table Names Ids e = cc
same_table Names Points e = cc
same_table Points Ids e = cc
same_table Points Names e = cc

table_itself : (t : Table) → eq_by_cmp nat_cmp (table_number t) (table_number t) ≡ true
table_itself Ids = refl
table_itself Names = refl
table_itself Points = refl

between : (table : Table) (from to : List ℕ) (row : Row) → is_between table from to row ≡ true → Between table from to row
between table from to row e =
    let w = both_true _ _ e in
    let v = both_true _ _ w.0 in
    record { in_table = same_table table row.table v.0; from_on = not_true _ v.1; below = w.1 }

between_is : (table : Table) (from to : List ℕ) (row : Row) → Between table from to row → is_between table from to row ≡ true
between_is table from to row b =
    ap (λ t. eq_by_cmp nat_cmp (table_number table) (table_number t) && not (is_lt (bytes_cmp row.bytes from)) && is_lt (bytes_cmp row.bytes to)) b.in_table
    ∙ ap (λ u. u && not (is_lt (bytes_cmp row.bytes from)) && is_lt (bytes_cmp row.bytes to)) (table_itself table)
    ∙ ap (λ u. true && not u && is_lt (bytes_cmp row.bytes to)) b.from_on ∙ b.below

-- rows between two rows of a table, by their bytes
pub row_between : (table : Table) (from to : List ℕ) (row : Row) → is_lt (row_cmp row (record { table = table; bytes = from })) ≡ false → is_lt (row_cmp row (record { table = table; bytes = to })) ≡ true → Between table from to row
row_between table from to row on below = at table row.table refl on below
  where
    at : (t u : Table) → row.table ≡ u → is_lt (ordering_then (nat_cmp (table_number u) (table_number t)) (bytes_cmp row.bytes from)) ≡ false → is_lt (ordering_then (nat_cmp (table_number u) (table_number t)) (bytes_cmp row.bytes to)) ≡ true → Between t from to row
    at Ids Ids e on below = record { in_table = e; from_on = on; below = below }
    at Names Names e on below = record { in_table = e; from_on = on; below = below }
    at Points Points e on below = record { in_table = e; from_on = on; below = below }
    at Names Ids e on below = cc
    at Points Ids e on below = cc
    at Points Names e on below = cc
    at Ids Names e on below = cc
    at Ids Points e on below = cc
    at Names Points e on below = cc

-- and back
rows_on : (table : Table) (from : List ℕ) (row : Row) → row.table ≡ table → is_lt (bytes_cmp row.bytes from) ≡ false → is_lt (row_cmp row (record { table = table; bytes = from })) ≡ false
rows_on table from row e on = at table row.table e
  where
    at : (t u : Table) → u ≡ t → is_lt (ordering_then (nat_cmp (table_number u) (table_number t)) (bytes_cmp row.bytes from)) ≡ false
    at Ids Ids e = on
    at Names Names e = on
    at Points Points e = on
    at Ids Names e = cc
    at Ids Points e = cc
    at Names Ids e = cc
    at Names Points e = cc
    at Points Ids e = cc
    at Points Names e = cc

-- ---- the next row

record FoundBy (s : Store) (table : Table) (from to : List ℕ) (f : Found) : Type 0 where
  entry : Place × Content
  is : find (λ (e : Place × Content). is_between table from to e.0.row) (entries s) ≡ Some entry
  row_is : f.row ≡ entry.0.row
  cells_are : f.cells ≡ cells_of s f.row

found_by : (s : Store) (table : Table) (from to : List ℕ) (f : Found) → next_row_of s table from to ≡ Some f → FoundBy s table from to f
found_by s table from to f is = at (find (λ (e : Place × Content). is_between table from to e.0.row) (entries s)) refl is
  where
    at : (o : Option (Place × Content)) → find (λ (e : Place × Content). is_between table from to e.0.row) (entries s) ≡ o → option_map (λ (e : Place × Content). record { row = e.0.row; cells = cells_of s e.0.row }) o ≡ Some f → FoundBy s table from to f
    at None o is = absurd (not_Some f (sym is))
    at (Some e) o is =
        let same : ◌≡◌ {A = Found} (record { row = e.0.row; cells = cells_of s e.0.row }) f = cc in
        record { entry = e; is = o; row_is = ap (λ (x : Found). x.row) (sym same); cells_are = ap (λ (x : Found). x.cells) (sym same) ∙ ap (λ (x : Found). cells_of s x.row) same }

-- the row found is in the range, with its cells
pub next_between : (s : Store) (table : Table) (from to : List ℕ) (f : Found) → next_row_of s table from to ≡ Some f → Between table from to f.row
next_between s table from to f is =
    let b = found_by s table from to f is in
    between table from to f.row (ap (is_between table from to) b.row_is ∙ find_passes (is_between table from to) (entries s) b.entry b.is)

pub next_cells : (s : Store) (table : Table) (from to : List ℕ) (f : Found) → next_row_of s table from to ≡ Some f → f.cells ≡ cells_of s f.row
next_cells s table from to f is = (found_by s table from to f is).cells_are

hit : (s : Store) (table : Table) (from to : List ℕ) (row : Row) (qual value : List ℕ) → is_between table from to row ≡ true → value_at s row qual ≡ Some value
    → FirstOf (place_of row qual) (find (λ (e : Place × Content). is_between table from to e.0.row) (entries s))
hit s table from to row qual value t is =
    let st = has_content (content_at s row qual) value is in
    first_hit (is_between table from to) (place_of row qual) st.content (entries s) (entries_sorted s.cells) (sym (get-entries s.cells (place_of row qual)) ∙ st.is) t

-- where none is found, no row of the range has a cell
pub next_none : (s : Store) (table : Table) (from to : List ℕ) → next_row_of s table from to ≡ None → Gap s (record { table = table; bytes = from }) (record { table = table; bytes = to })
next_none s table from to none row qual value c on below =
    at (find (λ (e : Place × Content). is_between table from to e.0.row) (entries s)) none (hit s table from to row qual value (between_is table from to row (row_between table from to row on below)) c)
  where
    at : (o : Option (Place × Content)) → option_map {U = Found} (λ (e : Place × Content). record { row = e.0.row; cells = cells_of s e.0.row }) o ≡ None → FirstOf (place_of row qual) o → ⊥
    at None e x = x
    at (Some y) e x = cc

-- an entry below a place of another row is of a row below
row_before : (a b : Row) (qa qb : List ℕ) → ordering_then (row_cmp a b) (bytes_cmp qa qb) ≡ Less → is_lt (row_cmp b a) ≡ true → ⊥
row_before a b qa qb e up = at (row_cmp a b) refl e
  where
    at : (r : Ordering) → row_cmp a b ≡ r → ordering_then r (bytes_cmp qa qb) ≡ Less → ⊥
    at Less r e = let n = not_back rows_total a b r in cc
    at Equal r e = let n = ap (λ (x : Row). is_lt (row_cmp x b)) (exact_rows a b r) in let m = ap (λ (x : Row). is_lt (row_cmp b x)) (exact_rows a b r) in let k = not_itself b in cc
    at Greater r e = cc

-- before the row that is found none of the range has a cell
pub next_gap : (s : Store) (table : Table) (from to : List ℕ) (f : Found) → next_row_of s table from to ≡ Some f → Gap s (record { table = table; bytes = from }) f.row
next_gap s table from to f is row qual value c on below =
    let b = found_by s table from to f is in
    let in_range = next_between s table from to f is in
    let here : Between table from f.row.bytes row = row_between table from f.row.bytes row on (subst (λ (t : Table). is_lt (row_cmp row (record { table = t; bytes = f.row.bytes })) ≡ true) in_range.in_table below) in
    let lower : is_lt (bytes_cmp row.bytes to) ≡ true = at (bytes_cmp row.bytes f.row.bytes) refl here.below in_range.below in
    let h : FirstOf (place_of row qual) (Some b.entry) = subst (FirstOf (place_of row qual)) b.is (hit s table from to row qual value (between_is table from to row (record { in_table = here.in_table; from_on = here.from_on; below = lower })) c) in
    elim h [
      | inl same ↦ row_itself row (ap (λ (x : Row). is_lt (row_cmp row x)) (same ∙ sym b.row_is) ∙ below)
      | inr before ↦ row_before b.entry.0.row row b.entry.0.qual qual before (ap (λ (x : Row). is_lt (row_cmp row x)) (sym b.row_is) ∙ below)
    ]
  where
    at : (r : Ordering) → bytes_cmp row.bytes f.row.bytes ≡ r → is_lt (bytes_cmp row.bytes f.row.bytes) ≡ true → is_lt (bytes_cmp f.row.bytes to) ≡ true → is_lt (bytes_cmp row.bytes to) ≡ true
    at r e a b = ap is_lt (nat_list_cmp_total.trans row.bytes f.row.bytes to (lt_less _ a) (lt_less _ b))

-- ---- going on behind a row

within_behind : (low high : ℕ) (from to bytes : List ℕ) → IsWithin low high from to → is_lt (bytes_cmp bytes from) ≡ false → is_lt (bytes_cmp bytes to) ≡ true → IsWithin low high (behind bytes) to
within_behind low high from to bytes w on below =
    let up : is_lt (bytes_cmp (behind bytes) bytes) ≡ false = not_back nat_list_cmp_total bytes (behind bytes) (below_behind bytes) in
    record {
      from_on = from_on_from_on (low ∷ []) bytes (behind bytes) (from_on_from_on (low ∷ []) from bytes w.from_on on) up;
      from_at = from_on_from_on (behind bytes) to (high ∷ []) (less_behind bytes to (lt_less _ below)) w.to_at;
      to_on = w.to_on;
      to_at = w.to_at;
    }

metric_behind : (w : Widths) (from to bytes : List ℕ) → SameMetric w from to → is_lt (bytes_cmp bytes from) ≡ false → is_lt (bytes_cmp bytes to) ≡ true → SameMetric w (behind bytes) to
metric_behind w from to bytes same on below =
    let within = prefix_between same.metric same.from_rest same.to_rest bytes (subst (λ (x : List ℕ). is_lt (bytes_cmp bytes x) ≡ false) same.from_is on) (subst (λ (x : List ℕ). is_lt (bytes_cmp bytes x) ≡ true) same.to_is below) in
    record { metric = same.metric; from_rest = behind within.0; to_rest = same.to_rest; whole = same.whole; from_is = ap behind within.1 ∙ append_assoc same.metric within.0 (0 ∷ []); to_is = same.to_is }

-- behind a row of the range the rest is one too
pub range_behind : (w : Widths) (table : Table) (from to : List ℕ) (row : Row) → InOneRange w table from to → Between table from to row → InOneRange w table (behind row.bytes) to
range_behind w Ids from to row r b = elim r [
  | inl r ↦ inl (within_behind 1 65 from to row.bytes r b.from_on b.below)
  | inr r ↦ elim r [
    | inl r ↦ inr (inl (within_behind 65 97 from to row.bytes r b.from_on b.below))
    | inr r ↦ elim r [
      | inl r ↦ inr (inr (inl (within_behind 97 110 from to row.bytes r b.from_on b.below)))
      | inr r ↦ inr (inr (inr (within_behind 110 123 from to row.bytes r b.from_on b.below)))
    ]
  ]
]
range_behind w Points from to row r b = metric_behind w from to row.bytes r b.from_on b.below
range_behind w Names from to row r b = absurd r

-- and it doesn't end before it begins
pub end_behind : (table : Table) (from to : List ℕ) (row : Row) → Between table from to row → is_lt (bytes_cmp to (behind row.bytes)) ≡ false
end_behind table from to row b = less_behind row.bytes to (lt_less _ b.below)

pub found_on : (table : Table) (from to : List ℕ) (row : Row) → Between table from to row → is_lt (row_cmp row (record { table = table; bytes = from })) ≡ false
found_on table from to row b = rows_on table from row b.in_table b.from_on

pub end_on : (table : Table) (from to : List ℕ) → is_lt (bytes_cmp to from) ≡ false → is_lt (row_cmp (record { table = table; bytes = to }) (record { table = table; bytes = from })) ≡ false
end_on table from to forward = rows_on table from (record { table = table; bytes = to }) refl forward
