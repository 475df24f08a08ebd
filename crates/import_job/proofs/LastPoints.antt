-- The last point at a place, with one point more.
use Rattle.std.proofs.Common.{◌≡◌, ◌≢◌, ◌⊎◌, inl, inr, ⊎_elim, ℕ, List, [], ◌∷◌, ◌++◌, length, refl, sym, ap, subst, ◌∙◌, arith, append_assoc, length-append}
use Rattle.std.specs.Prelude.{◌↔◌, Contains, Some}
use Rattle.std.proofs.lemmas.List.Elements.{Contains-append_cases, Contains-append_left, Contains-append_right}
use Rattle.list_lemmas.proofs.ListMembers.{here, not_in, split}
use Rattle.list_lemmas.proofs.ListParts.{HasLast, empty_or_last}
use Rattle.tsd_base.specs.Points.{DataPoint}
use Rattle.cell_model.specs.KindWidths.{Widths}
use Rattle.cell_model.specs.Layout.{IsLayout}
use Rattle.cell_model.specs.declared.events.Place.{Place}
use Rattle.cell_model.specs.Readings.{point_row}
use Rattle.cell_model.specs.Store.{Store, place_of, value_at}
use Rattle.cell_model.proofs.CallerLemmas.{same_or_not}
use Rattle.point_lines.specs.NameIds.{Names}
use Rattle.import_job.specs.ImportedCells.{IsLastAt, place_id}
use Rattle.import_job.proofs.OneLayout.{one_layout}

snoc_one : {X : Type 0} (xs ys : List X) (x y : X) → xs ++ x ∷ [] ≡ ys ++ y ∷ [] → (xs ≡ ys) × (x ≡ y)
snoc_one [] [] x y e = (refl, cc)
snoc_one [] (b ∷ ys) x y e =
    let l : length ([] ++ x ∷ []) ≡ length ((b ∷ ys) ++ y ∷ []) = ap length e in
    let m = length-append ys (y ∷ []) in
    absurd (omega (arith, l, m))
snoc_one (a ∷ xs) [] x y e =
    let l : length ((a ∷ xs) ++ x ∷ []) ≡ length ([] ++ y ∷ []) = ap length e in
    let m = length-append xs (x ∷ []) in
    absurd (omega (arith, l, m))
snoc_one (a ∷ xs) (b ∷ ys) x y e =
    let first : a ≡ b = cc in
    let rest : xs ++ x ∷ [] ≡ ys ++ y ∷ [] = cc in
    let w = snoc_one xs ys x y rest in
    ((λ i. first i ∷ w.0 i), w.1)

-- the cells of points are those of the last points
abbrev pub HasLasts : Widths → Names → List DataPoint → Store → Type 0
HasLasts w names points s = (row qual value : List ℕ) → value_at s (point_row row) qual ≡ Some value ↔ IsLastAt w names points row qual value

pub no_last : (w : Widths) (names : Names) (row qual value : List ℕ) → IsLastAt w names [] row qual value → ⊥
no_last w names row qual value l =
    let n : length {A = DataPoint} [] ≡ length (l.before ++ l.point ∷ l.later) = ap length l.parts in
    let m = length-append l.before (l.point ∷ l.later) in
    omega (arith, n, m)

module _ (w : Widths) (names : Names) (points : List DataPoint) (p : DataPoint) (row qual value : List ℕ) (lay : IsLayout w (place_id names) p row qual value) where
  -- the new point is the last one at its place
  new_last : IsLastAt w names (points ++ p ∷ []) row qual value
  new_last = record { before = points; point = p; later = []; parts = refl; layout = lay; last = λ q other c. absurd (not_in q c) }

  abbrev Elsewhere : List ℕ → List ℕ → Type 0
  Elsewhere r q = place_of (point_row r) q ≢ place_of (point_row row) qual

  places_same : (r q : List ℕ) → r ≡ row → q ≡ qual → place_of (point_row r) q ≡ place_of (point_row row) qual
  places_same r q a b = λ i. place_of (point_row (a i)) (b i)

  -- elsewhere the old one is
  old_last : (r q v : List ℕ) → Elsewhere r q → IsLastAt w names points r q v → IsLastAt w names (points ++ p ∷ []) r q v
  old_last r q v other l = record {
    before = l.before;
    point = l.point;
    later = l.later ++ p ∷ [];
    parts = ap (λ xs. xs ++ p ∷ []) l.parts ∙ append_assoc l.before (l.point ∷ l.later) (p ∷ []);
    layout = l.layout;
    last = λ x u c y. ⊎_elim
        (λ (early : Contains l.later x). l.last x u early y)
        (λ (new : Contains (p ∷ []) x). ⊎_elim
        (λ (same : p ≡ x). let one = one_layout w (place_id names) p r q u row qual value (subst (λ (z : DataPoint). IsLayout w (place_id names) z r q u) (sym same) y) lay in other (places_same r q one.0 one.1))
        (λ (no : Contains [] x). absurd (not_in x no))
        (split p x [] new))
        (Contains-append_cases l.later (p ∷ []) x c);
  }

  -- what is last with the new point is the new point, or was last elsewhere
  last_was : (r q v : List ℕ) → IsLastAt w names (points ++ p ∷ []) r q v → ((r ≡ row) × (q ≡ qual) × (v ≡ value)) ⊎ (Elsewhere r q × IsLastAt w names points r q v)
  last_was r q v l = ⊎_elim
      (λ (none : l.later ≡ []).
      let same = snoc_one points l.before p l.point (l.parts ∙ ap (λ (xs : List DataPoint). l.before ++ l.point ∷ xs) none) in
      inl (one_layout w (place_id names) p r q v row qual value (subst (λ (z : DataPoint). IsLayout w (place_id names) z r q v) (sym same.1) l.layout) lay))
      (λ (some : HasLast l.later).
      let cut : points ++ p ∷ [] ≡ (l.before ++ l.point ∷ some.front) ++ some.last ∷ [] = l.parts ∙ ap (λ (xs : List DataPoint). l.before ++ l.point ∷ xs) some.parts ∙ sym (append_assoc l.before (l.point ∷ some.front) (some.last ∷ [])) in
      let same = snoc_one points (l.before ++ l.point ∷ some.front) p some.last cut in
      let there_ : Contains l.later p = subst (λ (xs : List DataPoint). Contains xs p) (sym some.parts) (Contains-append_right some.front (some.last ∷ []) p (subst (λ (z : DataPoint). Contains (some.last ∷ []) z) (sym same.1) (here some.last []))) in
      inr (
        λ e. l.last p value there_ (subst (λ (x : Place). IsLayout w (place_id names) p x.row.bytes x.qual value) (sym e) lay),
        record { before = l.before; point = l.point; later = some.front; parts = same.0; layout = l.layout; last = λ x u c y. l.last x u (subst (λ (xs : List DataPoint). Contains xs x) (sym some.parts) (Contains-append_left some.front (some.last ∷ []) x c)) y },
      ))
      (empty_or_last l.later)

  -- one point was put
  pub put_last : (s t : Store) → value_at t (point_row row) qual ≡ Some value → ((r q : List ℕ) → Elsewhere r q → value_at t (point_row r) q ≡ value_at s (point_row r) q) → HasLasts w names points s → HasLasts w names (points ++ p ∷ []) t
  put_last s t now same has r q v = (to, from)
    where
      some_is : (x y : List ℕ) → Some x ≡ Some y → x ≡ y
      some_is x y e = cc

      to : value_at t (point_row r) q ≡ Some v → IsLastAt w names (points ++ p ∷ []) r q v
      to is = ⊎_elim
          (λ (here_ : place_of (point_row r) q ≡ place_of (point_row row) qual).
          let rows : r ≡ row = ap (λ (x : Place). x.row.bytes) here_ in
          let quals : q ≡ qual = ap (λ (x : Place). x.qual) here_ in
          let values : v ≡ value = some_is v value (sym is ∙ (λ i. value_at t (point_row (rows i)) (quals i)) ∙ now) in
          (λ (x : IsLastAt w names (points ++ p ∷ []) row qual value). transport_ x rows quals values) new_last)
          (λ (other : Elsewhere r q). old_last r q v other ((has r q v).0 (sym (same r q other) ∙ is)))
          (same_or_not (place_of (point_row r) q) (place_of (point_row row) qual))
        where
          transport_ : IsLastAt w names (points ++ p ∷ []) row qual value → r ≡ row → q ≡ qual → v ≡ value → IsLastAt w names (points ++ p ∷ []) r q v
          transport_ x a b c =
              subst (λ (y : List ℕ). IsLastAt w names (points ++ p ∷ []) y q v) (sym a)
              (subst (λ (y : List ℕ). IsLastAt w names (points ++ p ∷ []) row y v) (sym b)
              (subst (λ (y : List ℕ). IsLastAt w names (points ++ p ∷ []) row qual y) (sym c) x))

      from : IsLastAt w names (points ++ p ∷ []) r q v → value_at t (point_row r) q ≡ Some v
      from l = ⊎_elim
          (λ (here_ : (r ≡ row) × (q ≡ qual) × (v ≡ value)). (λ i. value_at t (point_row (here_.0 i)) (here_.1 i)) ∙ now ∙ ap Some (sym here_.2))
          (λ (before : Elsewhere r q × IsLastAt w names points r q v). same r q before.0 ∙ (has r q v).1 before.1)
          (last_was r q v l)
