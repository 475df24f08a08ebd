-- The least row of a range that has a cell.
use Rattle.std.proofs.Common.{◌≡◌, inl, inr, ℕ, Bool, true, false, cond, T, List, [], ◌∷◌, refl, sym, ap, subst, ◌∙◌, Less, Equal, Greater}
use Rattle.std.specs.Prelude.{Option, Some, None, Contains, option_map, find}
use Rattle.std.specs.Ordering.{is_eq, eq_by_cmp, ordering_then, ordering_reverse}
use Rattle.std.specs.FinMap.{entries_sorted, get-entries}
use Rattle.std.specs.FinMap as map
use Rattle.std.specs.FinMap.Entries.{is_sorted, below_all}
use Rattle.std.proofs.lemmas.Cmp.{tied_itself}
use Rattle.list_lemmas.proofs.BoolTests.{T_left, T_less, T_right, is_equal}
use Rattle.row_key.specs.declared.tables.Table.TheVariants.{Ids}
use Rattle.cell_model.specs.declared.row.Row.{Row}
use Rattle.cell_model.specs.declared.row.Found.{Found}
use Rattle.cell_model.specs.declared.events.Place.{Place}
use Rattle.cell_model.specs.declared.events.Content.{Content}
use Rattle.list_lemmas.specs.BytesOrder.{bytes_cmp}
use Rattle.cell_model.specs.PlaceOrder.{row_cmp, place_cmp}
use Rattle.cell_model.specs.Store.{Store, entries, place_of, content_at, value_at, cells_of, is_between, next_row_of}
use Rattle.list_lemmas.proofs.ListMembers.{here, there as behind, split, not_in}
use Rattle.cell_model.proofs.CallerLemmas.{places_total, rows_total, exact_places}

abbrev Line : Type 0
Line = Place × Content

-- a key below all is below each
below_each : (p : Place) (es : List Line) (e : Line) → T (below_all place_cmp p es) → Contains es e → place_cmp p e.0 ≡ Less
below_each p [] e h c = absurd (not_in e c)
below_each p (x ∷ es) e h c = elim (split x e es c) [
  | inl same ↦ subst (λ (y : Line). place_cmp p y.0 ≡ Less) same (T_less _ (T_left _ _ h))
  | inr later ↦ below_each p es e (T_right _ _ h) later
]

-- a place whose row is below another's is below it
row_first : (a b : Place) → row_cmp a.row b.row ≡ Less → place_cmp a b ≡ Less
row_first a b e = ap (λ o. ordering_then o (bytes_cmp a.qual b.qual)) e

turned : (a b : Place) → place_cmp a b ≡ Less → row_cmp b.row a.row ≡ Less → ⊥
turned a b ab ba = let back : place_cmp a b ≡ Greater = places_total.antisymm a b ∙ ap ordering_reverse (row_first b a ba) in let e : Less ≡ Greater = sym ab ∙ back in cc

-- the first line of a sorted list that passes a test of its row
pub record IsFirst (test : Row → Bool) (es : List Line) (e : Line) : Type 0 where
  pub among : Contains es e
  pub passes : test e.0.row ≡ true
  pub least : (x : Line) → Contains es x → test x.0.row ≡ true → row_cmp x.0.row e.0.row ≡ Less → ⊥

same_line : (a b : Line) → Some a ≡ Some b → a ≡ b
same_line a b e = cc

pub find_first : (test : Row → Bool) (es : List Line) (e : Line) → T (is_sorted place_cmp es) → find (λ (x : Line). test x.0.row) es ≡ Some e → IsFirst test es e
find_first test [] e sorted found = cc
find_first test (x ∷ es) e sorted found = at (test x.0.row) refl found (find_first test es e (T_right _ _ sorted))
  where
    at : (b : Bool) → test x.0.row ≡ b → cond b (Some x) (find (λ (y : Line). test y.0.row) es) ≡ Some e → (find (λ (y : Line). test y.0.row) es ≡ Some e → IsFirst test es e) → IsFirst test (x ∷ es) e
    at true t is go =
        let same = same_line x e is in
        let first : IsFirst test (x ∷ es) x = record {
          among = here x es;
          passes = t;
          least = λ y c p lt. elim (split x y es c) [
            | inl one ↦ (let e : Equal ≡ Less = sym (tied_itself rows_total x.0.row) ∙ subst (λ (z : Line). row_cmp z.0.row x.0.row ≡ Less) (sym one) lt in cc)
            | inr later ↦ turned x.0 y.0 (below_each x.0 es y (T_left _ _ sorted) later) lt
          ];
        } in
        subst (IsFirst test (x ∷ es)) same first
    at false t is go =
        let rest = go is in
        record {
          among = behind x e es rest.among;
          passes = rest.passes;
          least = λ y c p lt. elim (split x y es c) [
            | inl one ↦ (let f : false ≡ true = sym t ∙ ap (λ (z : Line). test z.0.row) one ∙ p in cc)
            | inr later ↦ rest.least y later p lt
          ];
        }

pub find_none : (test : Row → Bool) (es : List Line) → find (λ (x : Line). test x.0.row) es ≡ None → (x : Line) → Contains es x → test x.0.row ≡ true → ⊥
find_none test [] found x c p = not_in x c
find_none test (y ∷ es) found x c p = at (test y.0.row) refl found (λ f d. find_none test es f x d p)
  where
    at : (b : Bool) → test y.0.row ≡ b → cond b (Some y) (find (λ (z : Line). test z.0.row) es) ≡ None → (find (λ (z : Line). test z.0.row) es ≡ None → Contains es x → ⊥) → ⊥
    at true t is go = cc
    at false t is go = elim (split y x es c) [ inl one ↦ (let f : false ≡ true = sym t ∙ ap (λ (z : Line). test z.0.row) one ∙ p in cc) | inr later ↦ go is later ]

-- what the store has at a place is among its entries, and what is among them it has there
same_content : (a b : Content) → Some a ≡ Some b → a ≡ b
same_content a b e = cc

found_among : (es : List Line) (p : Place) (c : Content) → map.find place_cmp p es ≡ Some c → Contains es (p, c)
found_among [] p c e = cc
found_among (x ∷ es) p c e = at (eq_by_cmp place_cmp p x.0) refl e (found_among es p c)
  where
    at : (b : Bool) → eq_by_cmp place_cmp p x.0 ≡ b → cond b (Some x.1) (map.find place_cmp p es) ≡ Some c → (map.find place_cmp p es ≡ Some c → Contains es (p, c)) → Contains (x ∷ es) (p, c)
    at true t is go = subst (Contains (x ∷ es)) (λ i. ((sym (exact_places p x.0 (is_equal _ t))) i, (same_content x.1 c is) i)) (here x es)
    at false t is go = behind x (p, c) es (go is)

among_found : (es : List Line) (e : Line) → T (is_sorted place_cmp es) → Contains es e → map.find place_cmp e.0 es ≡ Some e.1
among_found [] e sorted c = absurd (not_in e c)
among_found (x ∷ es) e sorted c = elim (split x e es c) [
  | inl same ↦ subst (λ (y : Line). map.find place_cmp y.0 (x ∷ es) ≡ Some y.1) same (ap (λ b. cond b (Some x.1) (map.find place_cmp x.0 es)) (ap is_eq (tied_itself places_total x.0)))
  | inr later ↦
      let lt = below_each x.0 es e (T_left _ _ sorted) later in
      let other : place_cmp e.0 x.0 ≡ Greater = places_total.antisymm e.0 x.0 ∙ ap ordering_reverse lt in
      ap (λ b. cond b (Some x.1) (map.find place_cmp e.0 es)) (ap is_eq other) ∙ among_found es e (T_right _ _ sorted) later
]

some_mapped : (o : Option Content) (v : List ℕ) → option_map (λ (c : Content). c.value) o ≡ Some v → (c : Content) × (o ≡ Some c)
some_mapped None v e = cc
some_mapped (Some c) v e = (c, refl)

pub value_among_entries : (s : Store) (row : Row) (qual v : List ℕ) → value_at s row qual ≡ Some v → (c : Content) × Contains (entries s) (place_of row qual, c)
value_among_entries s row qual v e = let w = some_mapped (content_at s row qual) v e in (w.0, found_among (entries s) (place_of row qual) w.0 (sym (get-entries s.cells (place_of row qual)) ∙ w.1))

-- the row that was found: it is in the range and has a cell, and no row of the range below it has one
pub record FoundRow (s : Store) (from to : List ℕ) (found : Found) : Type 0 where
  pub between : is_between Ids from to found.row ≡ true
  pub cells : found.cells ≡ cells_of s found.row
  pub qual : List ℕ
  pub value : List ℕ
  pub stands : value_at s found.row qual ≡ Some value
  pub least : (row : Row) (q v : List ℕ) → value_at s row q ≡ Some v → is_between Ids from to row ≡ true → row_cmp row found.row ≡ Less → ⊥

found_some : (s : Store) (o : Option Line) (found : Found) → option_map (λ (e : Line). record { row = e.0.row; cells = cells_of s e.0.row }) o ≡ Some found → (e : Line) × (o ≡ Some e) × (record { row = e.0.row; cells = cells_of s e.0.row } ≡ found)
found_some s None found is = cc
found_some s (Some e) found is = (e, refl, same_found _ _ is)
  where
    same_found : (a b : Found) → Some a ≡ Some b → a ≡ b
    same_found a b x = cc

pub found_row : (s : Store) (from to : List ℕ) (found : Found) → next_row_of s Ids from to ≡ Some found → FoundRow s from to found
found_row s from to found is =
    let w = found_some s (find (λ (e : Line). is_between Ids from to e.0.row) (entries s)) found is in
    let f = find_first (is_between Ids from to) (entries s) w.0 (entries_sorted s.cells) w.1 in
    subst (FoundRow s from to) w.2 (record {
      between = f.passes;
      cells = refl;
      qual = w.0.0.qual;
      value = w.0.1.value;
      stands = ap (option_map (λ (c : Content). c.value)) (get-entries s.cells w.0.0 ∙ among_found (entries s) w.0 (entries_sorted s.cells) f.among);
      least = λ row q v at inside lt. let c = value_among_entries s row q v at in f.least (place_of row q, c.0) c.1 inside lt;
    })

no_found : (s : Store) (o : Option Line) → option_map {U = Found} (λ (e : Line). record { row = e.0.row; cells = cells_of s e.0.row }) o ≡ None → o ≡ None
no_found s None is = refl
no_found s (Some e) is = cc

pub no_row : (s : Store) (from to : List ℕ) → next_row_of s Ids from to ≡ None → (row : Row) (q v : List ℕ) → value_at s row q ≡ Some v → is_between Ids from to row ≡ true → ⊥
no_row s from to is row q v at inside =
    let c = value_among_entries s row q v at in
    find_none (is_between Ids from to) (entries s) (no_found s _ is) (place_of row q, c.0) c.1 inside
