-- What a store has in a row: its cells, and what a drop leaves of them.
use Rattle.std.proofs.Common.{◌≡◌, ◌≢◌, ◌⊎◌, inl, inr, ℕ, ◌≤◌, Bool, true, false, cond, not, List, [], ◌∷◌, reverse, refl, sym, ap, subst, ◌∙◌, arith}
use Rattle.std.specs.Prelude.{Option, None, Some, Contains, filter, nat_le, if◌then◌else◌}
use Rattle.std.specs.Ordering.{eq_by_cmp, is_eq}
use Rattle.std.specs.Cmp.{tied_itself}
use Rattle.std.specs.Cmp.Lexicographic.{nat_list_eq_equiv}
use Rattle.std.specs.FinMap.{get-entries, get-remove}
use Rattle.std.specs.FinMap as fin
use Rattle.std.proofs.lemmas.Bool.{true≢false}
use Rattle.std.proofs.lemmas.List.Sorted.{Contains-permutation, IsPermutation-reverse}
use Rattle.list_lemmas.proofs.BoolTests.{is_equal}
use Rattle.list_lemmas.proofs.ListMembers.{here, there, not_in, split, in_map, map_in}
use Rattle.list_lemmas.proofs.ListParts.{in_filter, to_filter}
use Rattle.qual_codec.specs.declared.cells.Cell.{Cell}
use Rattle.qual_codec.specs.CellDots.{column_qual}
use Rattle.cell_model.specs.declared.row.Row.{Row}
use Rattle.cell_model.specs.declared.events.Place.{Place}
use Rattle.cell_model.specs.declared.events.Content.{Content}
use Rattle.cell_model.specs.Store.{Store, cell_of, cells_of, content_at, dropped, entries, get, is_dropped, place_cmp, place_of, remove, row_cmp, same_bytes, value_at}
use Rattle.cell_model.proofs.CallerLemmas.{exact_places, exact_rows, get-dropped, get-removed_other, places_total, rows_total, same_store}
use Rattle.cell_laws.specs.StoreParts.{part}
use Rattle.cell_laws.proofs.PartLemmas.{cells-part, get-part}
use Rattle.row_scan.proofs.CallerLemmas.{cell_at}
use Rattle.point_lines.proofs.CallerLemmas.{same_bytes as same_is}
use Rattle.compactor.specs.Compaction.{by_items, others}

pub no_content : {c : Content} → ◌≡◌ {A = Option Content} None (Some c) → ⊥
no_content e = cc

pub one_content : (a b : Content) → ◌≡◌ {A = Option Content} (Some a) (Some b) → a ≡ b
one_content a b e = cc

-- ---- the cells of a row
this_row : Row → Row → Bool
this_row row r = eq_by_cmp row_cmp row r

this_itself : (row : Row) → this_row row row ≡ true
unfolding this_row
this_itself row = ap is_eq (tied_itself rows_total row)

-- where a row has the same in two stores, it has the same cells
pub same_cells : (s t : Store) (row : Row) → t.widths ≡ s.widths → ((qual : List ℕ) → content_at t row qual ≡ content_at s row qual) → cells_of t row ≡ cells_of s row
unfolding this_row
same_cells s t row widths same =
    sym (cells-part (this_row row) t row (this_itself row)) ∙ ap (λ x. cells_of x row) parts ∙ cells-part (this_row row) s row (this_itself row)
  where
    at : (p : Place) (b : Bool) → this_row row p.row ≡ b → cond b (get t p) None ≡ cond b (get s p) None
    at p true e =
        let r : row ≡ p.row = exact_rows row p.row (is_equal _ e) in
        ap (λ (x : Row). get t (place_of x p.qual)) (sym r) ∙ same p.qual ∙ ap (λ (x : Row). get s (place_of x p.qual)) r
    at p false e = refl

    parts : part (this_row row) t ≡ part (this_row row) s
    parts = same_store (part (this_row row) t) (part (this_row row) s) widths (λ p. get-part (this_row row) t p ∙ at p (this_row row p.row) refl ∙ sym (get-part (this_row row) s p))

-- a row without a content has no cells
pub none_cells : (s : Store) (row : Row) → ((qual value : List ℕ) → value_at s row qual ≡ Some value → ⊥) → cells_of s row ≡ []
none_cells s row none = at (cells_of s row) refl
  where
    at : (cells : List Cell) → cells_of s row ≡ cells → cells_of s row ≡ []
    at [] e = e
    at (c ∷ cells) e = absurd (none c.qual c.value (cell_at s row c (subst (λ (cs : List Cell). Contains cs c) (sym e) (here c cells))))

pub found_entry : (p : Place) (c : Content) (es : List (Place × Content)) → fin.find place_cmp p es ≡ Some c → Contains es (p, c)
found_entry p c [] is = absurd (no_content is)
found_entry p c (e ∷ es) is = at (eq_by_cmp place_cmp p e.0) refl is (found_entry p c es)
  where
    at : (t : Bool) → eq_by_cmp place_cmp p e.0 ≡ t → cond t (Some e.1) (fin.find place_cmp p es) ≡ Some c → (fin.find place_cmp p es ≡ Some c → Contains es (p, c)) → Contains (e ∷ es) (p, c)
    at true t is go =
        let place : p ≡ e.0 = exact_places p e.0 (is_equal _ t) in
        let content : e.1 ≡ c = one_content e.1 c is in
        let same : ◌≡◌ {A = Place × Content} e (p, c) = λ i. (sym place i, content i) in
        subst (Contains (e ∷ es)) same (here e es)
    at false t is go = there e (p, c) es (go is)

-- what stands in a row is one of its cells, with its version
pub cell_there : (s : Store) (row : Row) (qual : List ℕ) (c : Content) → content_at s row qual ≡ Some c → Contains (cells_of s row) (record { qual = qual; value = c.value; version = c.version })
cell_there s row qual c is =
    let e = found_entry (place_of row qual) c (entries s) (sym (get-entries s.cells (place_of row qual)) ∙ is) in
    in_map cell_of (filter (λ (x : Place × Content). eq_by_cmp row_cmp row x.0.row) (entries s)) (place_of row qual, c)
    (to_filter (λ (x : Place × Content). eq_by_cmp row_cmp row x.0.row) (entries s) (place_of row qual, c) e (ap is_eq (tied_itself rows_total row)))

-- ---- the column
keep_all : (p : Cell → Bool) (cells : List Cell) → ((c : Cell) → Contains cells c → p c ≡ true) → filter p cells ≡ cells
keep_all p [] all = refl
keep_all p (c ∷ cells) all = ap (λ b. cond b (c ∷ filter p cells) (filter p cells)) (all c (here c cells)) ∙ ap (λ cs. c ∷ cs) (keep_all p cells (λ d i. all d (there c d cells i)))

-- where there is no column all cells count
pub all_by_items : (s : Store) (row : Row) → ((value : List ℕ) → value_at s row column_qual ≡ Some value → ⊥) → by_items (cells_of s row) ≡ cells_of s row
all_by_items s row none = keep_all (λ (c : Cell). not (same_bytes c.qual column_qual)) (cells_of s row) (λ c i. at c i (same_bytes c.qual column_qual) refl)
  where
    at : (c : Cell) → Contains (cells_of s row) c → (b : Bool) → same_bytes c.qual column_qual ≡ b → not (same_bytes c.qual column_qual) ≡ true
    at c i true e = absurd (none c.value (ap (value_at s row) (sym (same_is c.qual column_qual e)) ∙ cell_at s row c i))
    at c i false e = ap not e

-- ---- what a drop leaves
removed_itself : (s : Store) (p : Place) → get (remove s p) p ≡ None
removed_itself s p = get-remove places_total s.cells p p ∙ ap (λ b. cond b None (get s p)) (ap is_eq (tied_itself places_total p))

-- a cell that is named, with its version or a later one, goes
pub gone : (s : Store) (row : Row) (which : List (List ℕ × ℕ)) (d : List ℕ × ℕ) → Contains which d → ((c : Content) → content_at s row d.0 ≡ Some c → c.version ≤ d.1) → (c : Content) → content_at (dropped s row which) row d.0 ≡ Some c → ⊥
gone s row [] d has old c is = not_in d has
gone s row (x ∷ list) d has old c is =
    at (split x d list has) (λ later. gone (if is_dropped (content_at s row x.0) x.1 then remove s (place_of row x.0) else s) row list d later (λ e there_. old e (get-dropped s row (x ∷ []) (place_of row d.0) e there_)) c is)
  where
    head : (o : Option Content) → content_at s row x.0 ≡ o → (e : Content) → content_at (if is_dropped o x.1 then remove s (place_of row x.0) else s) row x.0 ≡ Some e → ((f : Content) → content_at s row x.0 ≡ Some f → f.version ≤ x.1) → ⊥
    head None none e there_ low = no_content (sym none ∙ there_)
    head (Some f) some e there_ low =
        let up = low f some in
        let old_enough : nat_le f.version x.1 ≡ true = grind (arith, up) in
        no_content (sym (ap (λ b. content_at (if b then remove s (place_of row x.0) else s) row x.0) old_enough ∙ removed_itself s (place_of row x.0)) ∙ there_)

    at : (x ≡ d) ⊎ Contains list d → (Contains list d → ⊥) → ⊥
    at (inl same) go =
        let low = subst (λ (y : List ℕ × ℕ). (f : Content) → content_at s row y.0 ≡ Some f → f.version ≤ y.1) (sym same) old in
        let left : content_at (dropped (if is_dropped (content_at s row x.0) x.1 then remove s (place_of row x.0) else s) row list) row x.0 ≡ Some c = subst (λ (y : List ℕ × ℕ). content_at (dropped (if is_dropped (content_at s row x.0) x.1 then remove s (place_of row x.0) else s) row list) row y.0 ≡ Some c) (sym same) is in
        head (content_at s row x.0) refl c (get-dropped (if is_dropped (content_at s row x.0) x.1 then remove s (place_of row x.0) else s) row list (place_of row x.0) c left) low
    at (inr later) go = go later

-- a cell that isn't named stays
pub stays : (s : Store) (row : Row) (which : List (List ℕ × ℕ)) (qual : List ℕ) → ((d : List ℕ × ℕ) → Contains which d → d.0 ≢ qual) → content_at (dropped s row which) row qual ≡ content_at s row qual
stays s row [] qual other = refl
stays s row (x ∷ list) qual other = stays (if is_dropped (content_at s row x.0) x.1 then remove s (place_of row x.0) else s) row list qual (λ d i. other d (there x d list i)) ∙ at (is_dropped (content_at s row x.0) x.1)
  where
    at : (b : Bool) → content_at (if b then remove s (place_of row x.0) else s) row qual ≡ content_at s row qual
    at true = get-removed_other s (place_of row x.0) (place_of row qual) (λ e. other x (here x list) (sym (ap (λ (p : Place). p.qual) e)))
    at false = refl

-- which cells are named
pub named_other : (qual : List ℕ) (cells : List Cell) (d : List ℕ × ℕ) → Contains (others qual cells) d → d.0 ≢ qual
named_other qual cells d c e =
    let w = map_in (λ (x : Cell). (x.qual, x.version)) (filter (λ (x : Cell). not (same_bytes x.qual qual)) (reverse cells)) d c in
    let f = in_filter (λ (x : Cell). not (same_bytes x.qual qual)) (reverse cells) w.0 w.1 in
    let same : same_bytes w.0.qual qual ≡ true = subst (λ (q : List ℕ). same_bytes w.0.qual q ≡ true) (ap (λ (y : List ℕ × ℕ). y.0) w.2 ∙ e) (nat_list_eq_equiv.refl w.0.qual) in
    true≢false (sym f.1 ∙ ap not same)

pub is_named : (qual : List ℕ) (cells : List Cell) (c : Cell) → Contains cells c → c.qual ≢ qual → Contains (others qual cells) (c.qual, c.version)
is_named qual cells c has other =
    in_map (λ (x : Cell). (x.qual, x.version)) (filter (λ (x : Cell). not (same_bytes x.qual qual)) (reverse cells)) c
    (to_filter (λ (x : Cell). not (same_bytes x.qual qual)) (reverse cells) c (Contains-permutation cells (reverse cells) c (IsPermutation-reverse cells) has) (at (same_bytes c.qual qual) refl))
  where
    at : (b : Bool) → same_bytes c.qual qual ≡ b → not (same_bytes c.qual qual) ≡ true
    at true e = absurd (other (same_is c.qual qual e))
    at false e = ap not e
