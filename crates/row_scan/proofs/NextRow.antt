-- What a next row says of the store.
use Rattle.std.proofs.Common.{◌≡◌, ◌⊎◌, inl, inr, ℕ, Bool, true, false, cond, not, ◌&&◌, T, List, [], ◌∷◌, refl, sym, ap, subst, ◌∙◌}
use Rattle.std.specs.Prelude.{Option, None, Some, option_map, find, IsTrue, Contains}
use Rattle.std.specs.declared.cmp.Ordering.{Ordering}
use Rattle.std.specs.declared.cmp.Ordering.TheVariants.{Less, Equal, Greater}
use Rattle.std.specs.Ordering.{nat_cmp, ordering_then, ordering_reverse, eq_by_cmp, is_eq, is_lt}
use Rattle.std.specs.Cmp.{tied_itself}
use Rattle.std.specs.FinMap.{get-entries, entries_sorted, is_sorted}
use Rattle.std.specs.FinMap as fin
use Rattle.std.specs.FinMap.Entries.{below_all}
use Rattle.row_key.specs.declared.tables.Table.{Table}
use Rattle.row_key.specs.declared.tables.Table.TheVariants.{Ids, Names, Points}
use Rattle.cell_model.specs.declared.row.Row.{Row}
use Rattle.cell_model.specs.declared.row.Found.{Found}
use Rattle.cell_model.specs.declared.events.Place.{Place}
use Rattle.cell_model.specs.declared.events.Content.{Content}
use Rattle.cell_model.specs.Store.{Store, entries, place_cmp, row_cmp, place_of, table_number, content_at, value_at, cells_of, next_row_of, is_between}
use Rattle.list_lemmas.specs.BytesOrder.{bytes_cmp}
use Rattle.list_lemmas.proofs.BoolTests.{is_equal}
use Rattle.row_scan.proofs.Lower.{exact_places, exact_rows, places_total, here, there, split, not_in}

not_Some : {A : Type 0} (x : A) → ◌≡◌ {A = Option A} (Some x) None → ⊥
not_Some x e = cc

and_first : (a b : Bool) → (a && b) ≡ true → a ≡ true
and_first true b e = refl
and_first false b e = e

and_second : (a b : Bool) → (a && b) ≡ true → b ≡ true
and_second true b e = e
and_second false b e = cc

T_first : (a b : Bool) → T (a && b) → T a
T_first true b t = tt
T_first false b t = t

T_second : (a b : Bool) → T (a && b) → T b
T_second true b t = t
T_second false b t = absurd t

is_less : (r : Ordering) → T (is_lt r) → r ≡ Less
is_less Less t = refl
is_less Equal t = absurd t
is_less Greater t = absurd t

-- a value stands there with some version
record HasValue (o : Option Content) (value : List ℕ) : Type 0 where
  content : Content
  is : o ≡ Some content

mapped_Some : (o : Option Content) (value : List ℕ) → option_map (λ (c : Content). c.value) o ≡ Some value → HasValue o value
mapped_Some None value e = cc
mapped_Some (Some c) value e = record { content = c; is = refl }

tail_above : (x p : Place) (c : Content) (es : List (Place × Content)) → T (below_all place_cmp x es) → fin.find place_cmp p es ≡ Some c → place_cmp x p ≡ Less
tail_above x p c [] b is = absurd (not_Some c (sym is))
tail_above x p c (e ∷ es) b is = at (eq_by_cmp place_cmp p e.0) refl is (tail_above x p c es (T_second _ _ b))
  where
    at : (t : Bool) → eq_by_cmp place_cmp p e.0 ≡ t → cond t (Some e.1) (fin.find place_cmp p es) ≡ Some c → (fin.find place_cmp p es ≡ Some c → place_cmp x p ≡ Less) → place_cmp x p ≡ Less
    at true t is go = subst (λ (q : Place). place_cmp x q ≡ Less) (sym (exact_places p e.0 (is_equal _ t))) (is_less _ (T_first _ _ b))
    at false t is go = go is

-- the entry found is at this place's row or before it
abbrev FirstOf : Place → Option (Place × Content) → Type 0
FirstOf p None = ⊥
FirstOf p (Some e) = (p.row ≡ e.0.row) ⊎ (place_cmp e.0 p ≡ Less)

first_hit : (test : Row → Bool) (p : Place) (c : Content) (es : List (Place × Content)) → T (is_sorted place_cmp es) → fin.find place_cmp p es ≡ Some c → test p.row ≡ true → FirstOf p (find (λ (e : Place × Content). test e.0.row) es)
first_hit test p c [] s is t = absurd (not_Some c (sym is))
first_hit test p c (e ∷ es) s is t = at (test e.0.row) refl (eq_by_cmp place_cmp p e.0) refl is (λ i. first_hit test p c es (T_second _ _ s) i t)
  where
    at : (u : Bool) → test e.0.row ≡ u → (v : Bool) → eq_by_cmp place_cmp p e.0 ≡ v → cond v (Some e.1) (fin.find place_cmp p es) ≡ Some c → (fin.find place_cmp p es ≡ Some c → FirstOf p (find (λ (x : Place × Content). test x.0.row) es)) → FirstOf p (cond u (Some e) (find (λ (x : Place × Content). test x.0.row) es))
    at true u true v is go = inl (ap (λ (q : Place). q.row) (exact_places p e.0 (is_equal _ v)))
    at true u false v is go = inr (tail_above e.0 p c es (T_first _ _ s) is)
    at false u true v is go = let same = ap (λ (q : Place). test q.row) (exact_places p e.0 (is_equal _ v)) in cc
    at false u false v is go = go is

find_passes : (test : Row → Bool) (es : List (Place × Content)) (x : Place × Content) → find (λ (e : Place × Content). test e.0.row) es ≡ Some x → test x.0.row ≡ true
find_passes test [] x is = absurd (not_Some x (sym is))
find_passes test (e ∷ es) x is = at (test e.0.row) refl is (find_passes test es x)
  where
    at : (u : Bool) → test e.0.row ≡ u → cond u (Some e) (find (λ (y : Place × Content). test y.0.row) es) ≡ Some x → (find (λ (y : Place × Content). test y.0.row) es ≡ Some x → test x.0.row ≡ true) → test x.0.row ≡ true
    at true u is go = let same : e ≡ x = cc in ap (λ (y : Place × Content). test y.0.row) (sym same) ∙ u
    at false u is go = go is

find_in : (test : Row → Bool) (es : List (Place × Content)) (x : Place × Content) → find (λ (e : Place × Content). test e.0.row) es ≡ Some x → Contains es x
find_in test [] x is = absurd (not_Some x (sym is))
find_in test (e ∷ es) x is = at (test e.0.row) is (find_in test es x)
  where
    at : (u : Bool) → cond u (Some e) (find (λ (y : Place × Content). test y.0.row) es) ≡ Some x → (find (λ (y : Place × Content). test y.0.row) es ≡ Some x → Contains es x) → Contains (e ∷ es) x
    at true is go = let same : e ≡ x = cc in subst (λ (y : Place × Content). Contains (e ∷ es) y) same (here e es)
    at false is go = there e x es (go is)

-- a row of points in the range
pub record Between (from to : List ℕ) (row : Row) : Type 0 where
  pub in_points : row.table ≡ Points
  pub from_on : is_lt (bytes_cmp row.bytes from) ≡ false
  pub below : is_lt (bytes_cmp row.bytes to) ≡ true

not_true : (b : Bool) → not b ≡ true → b ≡ false
not_true true e = cc
not_true false e = refl

table_points : (t : Table) → eq_by_cmp nat_cmp 2 (table_number t) ≡ true → t ≡ Points
table_points Ids e = cc
table_points Names e = cc
table_points Points e = refl

pub between : (from to : List ℕ) (row : Row) → IsTrue (is_between Points from to row) → Between from to row
between from to row e = record {
  in_points = table_points row.table (and_first _ _ (and_first _ _ e));
  from_on = not_true _ (and_second _ _ (and_first _ _ e));
  below = and_second _ _ e;
}

pub between_is : (from to : List ℕ) (row : Row) → Between from to row → IsTrue (is_between Points from to row)
between_is from to row b =
    ap (λ t. eq_by_cmp nat_cmp 2 (table_number t) && not (is_lt (bytes_cmp row.bytes from)) && is_lt (bytes_cmp row.bytes to)) b.in_points
    ∙ ap (λ u. true && not u && is_lt (bytes_cmp row.bytes to)) b.from_on ∙ b.below

record FoundBy (s : Store) (from to : List ℕ) (f : Found) : Type 0 where
  entry : Place × Content
  is : find (λ (e : Place × Content). is_between Points from to e.0.row) (entries s) ≡ Some entry
  row_is : f.row ≡ entry.0.row
  cells_are : f.cells ≡ cells_of s f.row

found_by : (s : Store) (from to : List ℕ) (f : Found) → next_row_of s Points from to ≡ Some f → FoundBy s from to f
found_by s from to f is = at (find (λ (e : Place × Content). is_between Points from to e.0.row) (entries s)) refl is
  where
    at : (o : Option (Place × Content)) → find (λ (e : Place × Content). is_between Points from to e.0.row) (entries s) ≡ o → option_map (λ (e : Place × Content). record { row = e.0.row; cells = cells_of s e.0.row }) o ≡ Some f → FoundBy s from to f
    at None o is = absurd (not_Some f (sym is))
    at (Some e) o is =
        let same : ◌≡◌ {A = Found} (record { row = e.0.row; cells = cells_of s e.0.row }) f = cc in
        record { entry = e; is = o; row_is = ap (λ (x : Found). x.row) (sym same); cells_are = ap (λ (x : Found). x.cells) (sym same) ∙ ap (λ (x : Found). cells_of s x.row) same }

-- the row found is in the range, with its cells
pub next_between : (s : Store) (from to : List ℕ) (f : Found) → next_row_of s Points from to ≡ Some f → Between from to f.row
next_between s from to f is =
    let b = found_by s from to f is in
    between from to f.row (ap (is_between Points from to) b.row_is ∙ find_passes (is_between Points from to) (entries s) b.entry b.is)

pub next_cells : (s : Store) (from to : List ℕ) (f : Found) → next_row_of s Points from to ≡ Some f → f.cells ≡ cells_of s f.row
next_cells s from to f is = (found_by s from to f is).cells_are

hit : (s : Store) (from to : List ℕ) (row : Row) (qual value : List ℕ) → IsTrue (is_between Points from to row) → value_at s row qual ≡ Some value
    → FirstOf (place_of row qual) (find (λ (e : Place × Content). is_between Points from to e.0.row) (entries s))
hit s from to row qual value t is =
    let st = mapped_Some (content_at s row qual) value is in
    first_hit (is_between Points from to) (place_of row qual) st.content (entries s) (entries_sorted s.cells) (sym (get-entries s.cells (place_of row qual)) ∙ st.is) t

-- where none is found, no row of the range has a cell
pub next_none : (s : Store) (from to : List ℕ) (row : Row) (qual value : List ℕ) → next_row_of s Points from to ≡ None → Between from to row → value_at s row qual ≡ Some value → ⊥
next_none s from to row qual value none b c = at (find (λ (e : Place × Content). is_between Points from to e.0.row) (entries s)) none (hit s from to row qual value (between_is from to row b) c)
  where
    at : (o : Option (Place × Content)) → option_map {U = Found} (λ (e : Place × Content). record { row = e.0.row; cells = cells_of s e.0.row }) o ≡ None → FirstOf (place_of row qual) o → ⊥
    at None e x = x
    at (Some y) e x = cc

-- the order of rows of points is that of their bytes
row_below : (a b : Row) (qa qb : List ℕ) → a.table ≡ Points → b.table ≡ Points → place_cmp (place_of a qa) (place_of b qb) ≡ Less → (b ≡ a) ⊎ (bytes_cmp a.bytes b.bytes ≡ Less)
row_below a b qa qb ta tb e = at (row_cmp a b) refl e
  where
    plain : row_cmp a b ≡ bytes_cmp a.bytes b.bytes
    plain = ap (λ t. ordering_then (nat_cmp (table_number t) (table_number b.table)) (bytes_cmp a.bytes b.bytes)) ta ∙ ap (λ t. ordering_then (nat_cmp 2 (table_number t)) (bytes_cmp a.bytes b.bytes)) tb

    at : (r : Ordering) → row_cmp a b ≡ r → ordering_then r (bytes_cmp qa qb) ≡ Less → (b ≡ a) ⊎ (bytes_cmp a.bytes b.bytes ≡ Less)
    at Less r e = inr (sym plain ∙ r)
    at Equal r e = inl (sym (exact_rows a b r))
    at Greater r e = cc

-- and any row of the range that has a cell is the one found or above it
pub next_least : (s : Store) (from to : List ℕ) (f : Found) (row : Row) (qual value : List ℕ) → next_row_of s Points from to ≡ Some f → Between from to row → value_at s row qual ≡ Some value → (row ≡ f.row) ⊎ (bytes_cmp f.row.bytes row.bytes ≡ Less)
next_least s from to f row qual value is t c =
    let b = found_by s from to f is in
    let h : FirstOf (place_of row qual) (Some b.entry) = subst (FirstOf (place_of row qual)) b.is (hit s from to row qual value (between_is from to row t) c) in
    let in_range = next_between s from to f is in
    elim h [
      | inl same ↦ inl (same ∙ sym b.row_is)
      | inr below ↦ row_below f.row row b.entry.0.qual qual in_range.in_points t.in_points (ap (λ (r : Row). place_cmp (place_of r b.entry.0.qual) (place_of row qual)) b.row_is ∙ below)
    ]

below_in : (x : Place) (e : Place × Content) (es : List (Place × Content)) → T (below_all place_cmp x es) → Contains es e → place_cmp x e.0 ≡ Less
below_in x e [] b c = absurd (not_in e c)
below_in x e (y ∷ es) b c = at (split y e es c) (λ c. below_in x e es (T_second _ _ b) c)
  where
    at : (y ≡ e) ⊎ Contains es e → (Contains es e → place_cmp x e.0 ≡ Less) → place_cmp x e.0 ≡ Less
    at (inl same) go = subst (λ (z : Place × Content). place_cmp x z.0 ≡ Less) same (is_less _ (T_first _ _ b))
    at (inr c) go = go c

-- an entry is what the store has at its place
pub found_there : (e : Place × Content) (es : List (Place × Content)) → T (is_sorted place_cmp es) → Contains es e → fin.find place_cmp e.0 es ≡ Some e.1
found_there e [] s c = absurd (not_in e c)
found_there e (x ∷ es) s c = at (split x e es c) (λ c. found_there e es (T_second _ _ s) c)
  where
    greater : (r : Ordering) → r ≡ Less → is_eq (ordering_reverse r) ≡ false
    greater Less e = refl
    greater Equal e = cc
    greater Greater e = refl

    at : (x ≡ e) ⊎ Contains es e → (Contains es e → fin.find place_cmp e.0 es ≡ Some e.1) → fin.find place_cmp e.0 (x ∷ es) ≡ Some e.1
    at (inl same) go = subst (λ (z : Place × Content). fin.find place_cmp z.0 (x ∷ es) ≡ Some z.1) same (ap (λ r. cond (is_eq r) (Some x.1) (fin.find place_cmp x.0 es)) (tied_itself places_total x.0))
    at (inr c) go =
        ap (λ b. cond b (Some x.1) (fin.find place_cmp e.0 es)) (ap is_eq (places_total.antisymm e.0 x.0) ∙ greater (place_cmp x.0 e.0) (below_in x.0 e es (T_first _ _ s) c)) ∙ go c

-- the row found has a cell
pub next_has : (s : Store) (from to : List ℕ) (f : Found) → next_row_of s Points from to ≡ Some f → (qual : List ℕ) × (value : List ℕ) × (value_at s f.row qual ≡ Some value)
next_has s from to f is =
    let b = found_by s from to f is in
    let there = found_there b.entry (entries s) (entries_sorted s.cells) (find_in (is_between Points from to) (entries s) b.entry b.is) in (
      b.entry.0.qual,
      b.entry.1.value,
      ap (λ (r : Row). value_at s r b.entry.0.qual) b.row_is ∙ ap (λ (o : Option Content). option_map (λ (c : Content). c.value) o) (get-entries s.cells b.entry.0 ∙ there),
    )
