-- What the store has at a place after a write, a removal or a drop.
use Rattle.std.proofs.Common.{◌≡◌, ◌≢◌, ◌⊎◌, inl, inr, ℕ, Bool, true, false, cond, List, [], ◌∷◌, refl, sym, ap, subst, ◌∙◌, arith}
use Rattle.std.specs.Prelude.{Option, None, Some, if◌then◌else◌}
use Rattle.std.specs.Ordering.{nat_cmp, eq_by_cmp, is_eq}
use Rattle.std.specs.Cmp.{IsTotalOrder, on_total, then_total, nat_cmp_total, tied_itself}
use Rattle.std.specs.Cmp.Lexicographic.{nat_list_cmp_total}
use Rattle.std.specs.FinMap.{get-insert, get-remove, same_map, slice_cmp-IsAntisymmetric, nat_cmp-IsAntisymmetric}
use Rattle.std.proofs.lemmas.Map.Lookups.{CmpEqualImpliesEq, exact_pairs, exact_unsigned}
use Rattle.list_lemmas.proofs.BoolTests.{is_equal}
use Rattle.row_key.specs.declared.tables.Table.{Table}
use Rattle.row_key.specs.declared.tables.Table.TheVariants.{Ids, Names, Points}
use Rattle.cell_model.specs.declared.row.Row.{Row}
use Rattle.cell_model.specs.declared.events.Place.{Place}
use Rattle.cell_model.specs.declared.events.Content.{Content}
use Rattle.cell_model.specs.Store.{Store, get, remove, table_number, row_cmp, place_cmp, place_of, content_at, written, stamped, stamped_over, is_dropped, dropped}
use Rattle.list_lemmas.specs.BytesOrder.{bytes_cmp}

pub rows_total : IsTotalOrder row_cmp
rows_total = then_total (on_total (λ (r : Row). table_number r.table) nat_cmp_total) (on_total (λ (r : Row). r.bytes) nat_list_cmp_total)

pub places_total : IsTotalOrder place_cmp
places_total = then_total (on_total (λ (p : Place). p.row) rows_total) (on_total (λ (p : Place). p.qual) nat_list_cmp_total)

exact_tables : (s t : Table) → table_number s ≡ table_number t → s ≡ t
exact_tables Ids Ids e = refl
exact_tables Names Names e = refl
exact_tables Points Points e = refl
exact_tables Ids Names e = absurd (omega (arith, e))
exact_tables Ids Points e = absurd (omega (arith, e))
exact_tables Names Ids e = absurd (omega (arith, e))
exact_tables Names Points e = absurd (omega (arith, e))
exact_tables Points Ids e = absurd (omega (arith, e))
exact_tables Points Names e = absurd (omega (arith, e))

pub exact_rows : CmpEqualImpliesEq row_cmp
exact_rows a b h =
    ap (λ (p : Table × List ℕ). record { table = p.0; bytes = p.1 })
    (exact_pairs (λ s t. nat_cmp (table_number s) (table_number t)) bytes_cmp (λ s t e. exact_tables s t (exact_unsigned _ _ e)) (slice_cmp-IsAntisymmetric nat_cmp-IsAntisymmetric) (a.table, a.bytes) (b.table, b.bytes) h)

pub exact_places : CmpEqualImpliesEq place_cmp
exact_places a b h =
    ap (λ (p : Row × List ℕ). record { row = p.0; qual = p.1 })
    (exact_pairs row_cmp bytes_cmp exact_rows (slice_cmp-IsAntisymmetric nat_cmp-IsAntisymmetric) (a.row, a.qual) (b.row, b.qual) h)

pub tied : (p : Place) → eq_by_cmp place_cmp p p ≡ true
tied p = ap is_eq (tied_itself places_total p)

pub untied : (p q : Place) → p ≢ q → eq_by_cmp place_cmp p q ≡ false
untied p q ne = at (eq_by_cmp place_cmp p q) refl
  where
    at : (b : Bool) → eq_by_cmp place_cmp p q ≡ b → b ≡ false
    at true e = absurd (ne (exact_places p q (is_equal _ e)))
    at false e = refl

-- stores with the same widths that have the same at each place are one
pub same_store : (s t : Store) → s.widths ≡ t.widths → ((p : Place) → get s p ≡ get t p) → s ≡ t
same_store s t w e = λ i. record { widths = w i; cells = same_map places_total exact_places s.cells t.cells e i }

-- what was written stands there
pub content-written : (s : Store) (row : Row) (qual value : List ℕ) (version : ℕ) → content_at (written s row qual value version) row qual ≡ Some (record { value = value; version = version })
content-written s row qual value version =
    let c : Content = record { value = value; version = version } in
    get-insert places_total s.cells (place_of row qual) c (place_of row qual) ∙ ap (λ b. cond b (Some c) (content_at s row qual)) (tied (place_of row qual))

-- and every other place is as before
pub content-written_other : (s : Store) (row : Row) (qual value : List ℕ) (version : ℕ) (p : Place) → p ≢ place_of row qual → get (written s row qual value version) p ≡ get s p
content-written_other s row qual value version p ne =
    let c : Content = record { value = value; version = version } in
    get-insert places_total s.cells (place_of row qual) c p ∙ ap (λ b. cond b (Some c) (get s p)) (untied p (place_of row qual) ne)

pub get-removed_other : (s : Store) (q p : Place) → p ≢ q → get (remove s q) p ≡ get s p
get-removed_other s q p ne = get-remove places_total s.cells q p ∙ ap (λ b. cond b None (get s p)) (untied p q ne)

-- a drop leaves other rows
pub get-dropped_other : (s : Store) (row : Row) (which : List (List ℕ × ℕ)) (p : Place) → p.row ≢ row → get (dropped s row which) p ≡ get s p
get-dropped_other s row [] p ne = refl
get-dropped_other s row (d ∷ which) p ne =
    elim (is_dropped (content_at s row d.0) d.1) as (λ b. get (dropped (if b then remove s (place_of row d.0) else s) row which) p ≡ get s p) [
      | true ↦ get-dropped_other (remove s (place_of row d.0)) row which p ne ∙ get-removed_other s (place_of row d.0) p (λ e. ne (ap (λ (x : Place). x.row) e))
      | false ↦ get-dropped_other s row which p ne
    ]

-- two places are one, or they are not
pub same_or_not : (p q : Place) → (p ≡ q) ⊎ (p ≢ q)
same_or_not p q = at (eq_by_cmp place_cmp p q) refl
  where
    at : (b : Bool) → eq_by_cmp place_cmp p q ≡ b → (p ≡ q) ⊎ (p ≢ q)
    at true e = inl (exact_places p q (is_equal _ e))
    at false e = inr (λ same. let t : true ≡ false = sym (tied q) ∙ ap (λ x. eq_by_cmp place_cmp x q) (sym same) ∙ e in cc)

-- a cell written twice has the second version
written_twice : (s : Store) (row : Row) (qual value : List ℕ) (old new : ℕ) → written (written s row qual value old) row qual value new ≡ written s row qual value new
written_twice s row qual value old new = same_store _ _ refl (λ p. at p (same_or_not p (place_of row qual)))
  where
    at : (p : Place) → (p ≡ place_of row qual) ⊎ (p ≢ place_of row qual) → get (written (written s row qual value old) row qual value new) p ≡ get (written s row qual value new) p
    at p (inl same) = subst (λ (x : Place). get (written (written s row qual value old) row qual value new) x ≡ get (written s row qual value new) x) (sym same)
        (content-written (written s row qual value old) row qual value new ∙ sym (content-written s row qual value new))
    at p (inr other) =
        content-written_other (written s row qual value old) row qual value new p other ∙ content-written_other s row qual value old p other ∙ sym (content-written_other s row qual value new p other)

-- a cell that was just written and then stamped
pub stamped-written : (s : Store) (row : Row) (qual value : List ℕ) (old new : ℕ) → stamped (written s row qual value old) row qual new ≡ written s row qual value new
stamped-written s row qual value old new =
    ap (λ (o : Option Content). stamped_over o (written s row qual value old) row qual new) (content-written s row qual value old) ∙ written_twice s row qual value old new

pub some_there : (s : Store) (row : Row) (qual value : List ℕ) (version : ℕ) → content_at (written s row qual value version) row qual ≢ None
some_there s row qual value version e = let t = content-written s row qual value version in cc

-- what is left after a drop was there before
pub get-dropped : (s : Store) (row : Row) (which : List (List ℕ × ℕ)) (p : Place) (c : Content) → get (dropped s row which) p ≡ Some c → get s p ≡ Some c
get-dropped s row [] p c is = is
get-dropped s row (d ∷ which) p c is =
    at (is_dropped (content_at s row d.0) d.1) is (get-dropped (remove s (place_of row d.0)) row which p c) (get-dropped s row which p c)
  where
    at : (b : Bool) → get (dropped (if b then remove s (place_of row d.0) else s) row which) p ≡ Some c → (get (dropped (remove s (place_of row d.0)) row which) p ≡ Some c → get (remove s (place_of row d.0)) p ≡ Some c)
        → (get (dropped s row which) p ≡ Some c → get s p ≡ Some c) → get s p ≡ Some c
    at false e one other = other e
    at true e one other = removed (same_or_not p (place_of row d.0)) (one e)
      where
        removed : (p ≡ place_of row d.0) ⊎ (p ≢ place_of row d.0) → get (remove s (place_of row d.0)) p ≡ Some c → get s p ≡ Some c
        removed (inl same) e = let none : get (remove s (place_of row d.0)) p ≡ None = get-remove places_total s.cells (place_of row d.0) p ∙ ap (λ b. cond b None (get s p)) (ap (λ (x : Place). eq_by_cmp place_cmp p x) (sym same) ∙ tied p) in cc
        removed (inr other) e = sym (get-removed_other s (place_of row d.0) p other) ∙ e

-- a stamp leaves the widths
pub stamped_widths : (s : Store) (row : Row) (qual : List ℕ) (version : ℕ) → (stamped s row qual version).widths ≡ s.widths
stamped_widths s row qual version = at (content_at s row qual)
  where
    at : (o : Option Content) → (stamped_over o s row qual version).widths ≡ s.widths
    at None = refl
    at (Some c) = refl
