-- What is gathered, point by point.
use Rattle.row_key.specs.Made.{three}
use Rattle.std.proofs.Common.{◌≡◌, ℕ, Bool, true, false, cond, List, [], ◌∷◌, ◌++◌, Option, Some, None, map, refl, sym, ap, subst, ◌∙◌}
use Rattle.std.specs.Prelude.{ℤ, Ok, Err, filter, is_some}
use Rattle.std.specs.List.{AllByRecursion, flat_map}
use Rattle.std.proofs.lemmas.Bool.{and_parts, true≢false}
use Rattle.tsd_base.specs.Points.{DataPoint}
use Rattle.tsd_base.specs.TagOrder.{tags_same}
use Rattle.tsd_base.specs.declared.kinds.Kind.{Kind}
use Rattle.cell_model.specs.Layout.{IsPoint, names_of}
use Rattle.cell_model.specs.Seen.{Seen}
use Rattle.point_lines.proofs.CallerLemmas.{names_last}
use Rattle.batch_job.specs.Storing.{IsNaming, Notes}
use Rattle.point_lines.specs.NameIds.{Names}
use Rattle.batch_job.specs.NotedIds.{no_names, noted_all, names_in, and_then_noted}
use Rattle.batch_job.specs.SeriesValues.{Series, is_same_series, series_of_point, values_in}
use Rattle.batch_job.specs.Pending.{SoFar, values_of, unless_empty, Gathers}
use Rattle.batch_job.proofs.LastPoints.{beq_same, same_bytes}
use Rattle.point_lines.proofs.CallerLemmas.{IsKnown, AreKnown}
use Rattle.point_lines.proofs.CallerLemmas.{notes_all, noted_all-known}
use Rattle.point_lines.proofs.CallerLemmas.{noted_all-append}

abbrev pub dot : DataPoint → ℕ × ℤ
dot p = (p.time, p.value)

pub same_series : (a b : Series) → is_same_series a b ≡ true → a ≡ b
same_series a b e =
    let both = and_parts _ _ e in
    let names = and_parts _ _ both.0 in
    λ i. ((same_bytes a.0.0 b.0.0 names.0 i, tags_same a.0.1 b.0.1 names.1 i), beq_same a.1 b.1 both.1 i)

-- ---- lists
all_left : {A : Type 0} (P : A → Type 0) (xs ys : List A) → AllByRecursion P (xs ++ ys) → AllByRecursion P xs
all_left P [] ys h = tt
all_left P (x ∷ xs) ys h = (h.0, all_left P xs ys h.1)

all_right : {A : Type 0} (P : A → Type 0) (xs ys : List A) → AllByRecursion P (xs ++ ys) → AllByRecursion P ys
all_right P [] ys h = h
all_right P (x ∷ xs) ys h = all_right P xs ys h.1

all_last : {A : Type 0} (P : A → Type 0) (xs : List A) (y : A) → AllByRecursion P xs → P y → AllByRecursion P (xs ++ y ∷ [])
all_last P [] y h p = (p, tt)
all_last P (x ∷ xs) y h p = (h.0, all_last P xs y h.1 p)

-- ---- the names of a series that was read are known
pub none_not_some : {A : Type 0} {x : A} → None ≡ Some x → ⊥
none_not_some e = true≢false (sym (ap is_some e))

pub known_series : (names : Names) (points : List DataPoint) (s : Series) (list : List (ℕ × ℤ)) → AreKnown names (flat_map names_of points) → unless_empty (values_of points s) ≡ Some list → AreKnown names (names_in s.0.0 s.0.1)
known_series names [] s list known is = absurd (none_not_some is)
known_series names (p ∷ points) s list known is =
    elim (is_same_series (series_of_point p) s) as (λ b. is_same_series (series_of_point p) s ≡ b → unless_empty (map dot (cond b (p ∷ filter (λ q. is_same_series (series_of_point q) s) points) (filter (λ q. is_same_series (series_of_point q) s) points))) ≡ Some list → AreKnown names (names_in s.0.0 s.0.1)) [
      | true ↦ λ e _. subst (λ (t : Series). AreKnown names (names_in t.0.0 t.0.1)) (same_series (series_of_point p) s e) (all_left (IsKnown names) (names_of p) (flat_map names_of points) known)
      | false ↦ λ _ found. known_series names points s list (all_right (IsKnown names) (names_of p) (flat_map names_of points) known) found
    ] refl is

-- ---- one more value
abbrev pub or_nil : Option (List (ℕ × ℤ)) → List (ℕ × ℤ)
or_nil None = []
or_nil (Some list) = list

or_nil-unless : (xs : List (ℕ × ℤ)) → or_nil (unless_empty xs) ≡ xs
or_nil-unless [] = refl
or_nil-unless (x ∷ xs) = refl

unless_empty-last : (xs : List (ℕ × ℤ)) (y : ℕ × ℤ) → Some (xs ++ y ∷ []) ≡ unless_empty (xs ++ y ∷ [])
unless_empty-last [] y = refl
unless_empty-last (x ∷ xs) y = refl

abbrev onto : ℕ × ℤ → List (ℕ × ℤ) → List (ℕ × ℤ)
onto x xs = x ∷ xs

into : (b : Bool) (x : ℕ × ℤ) (xs ys : List (ℕ × ℤ)) → onto x (cond b xs ys) ≡ cond b (x ∷ xs) (x ∷ ys)
into true x xs ys = refl
into false x xs ys = refl

values_last : (points : List DataPoint) (p : DataPoint) (s : Series) → values_of (points ++ p ∷ []) s ≡ cond (is_same_series (series_of_point p) s) (values_of points s ++ dot p ∷ []) (values_of points s)
values_last [] p s =
    elim (is_same_series (series_of_point p) s) as (λ b. map dot (cond b (p ∷ []) []) ≡ cond b (dot p ∷ []) []) [
      | true ↦ refl
      | false ↦ refl
    ]
values_last (q ∷ points) p s =
    elim (is_same_series (series_of_point q) s) as (λ b. map dot (cond b (q ∷ filter (λ r. is_same_series (series_of_point r) s) (points ++ p ∷ [])) (filter (λ r. is_same_series (series_of_point r) s) (points ++ p ∷ [])))
    ≡ cond (is_same_series (series_of_point p) s) (map dot (cond b (q ∷ filter (λ r. is_same_series (series_of_point r) s) points) (filter (λ r. is_same_series (series_of_point r) s) points)) ++ dot p ∷ []) (map dot (cond b (q ∷ filter (λ r. is_same_series (series_of_point r) s) points) (filter (λ r. is_same_series (series_of_point r) s) points)))) [
      | true ↦ ap (onto (dot q)) (values_last points p s) ∙ into (is_same_series (series_of_point p) s) (dot q) (values_of points s ++ dot p ∷ []) (values_of points s)
      | false ↦ values_last points p s
    ]

one_more : (points : List DataPoint) (p : DataPoint) (s : Series) (b : Bool) → is_same_series (series_of_point p) s ≡ b
    → cond b (Some (values_of points (series_of_point p) ++ dot p ∷ [])) (unless_empty (values_of points s)) ≡ unless_empty (cond b (values_of points s ++ dot p ∷ []) (values_of points s))
one_more points p s true e = unless_empty-last (values_of points (series_of_point p)) (dot p) ∙ ap (λ t. unless_empty (values_of points t ++ dot p ∷ [])) (same_series (series_of_point p) s e)
one_more points p s false e = refl

-- one more point of a series: what is gathered but for the store
record OneMore (points : List DataPoint) (p : DataPoint) (new : SoFar) : Type 0 where
  pub series : (s : Series) → values_in new.gathered s ≡ unless_empty (values_of (points ++ p ∷ []) s)
  pub are_points : AllByRecursion IsPoint (points ++ p ∷ [])

more_of : (points : List DataPoint) (old new : SoFar) (p : DataPoint) → Gathers points old → IsPoint p
    → ((s : Series) → values_in new.gathered s ≡ cond (is_same_series (series_of_point p) s) (Some (or_nil (values_in old.gathered (series_of_point p)) ++ dot p ∷ [])) (values_in old.gathered s))
    → OneMore points p new
more_of points old new p h is_point step = record {
  series = λ s.
      step s ∙ ap (λ o. cond (is_same_series (series_of_point p) s) (Some (or_nil o ++ dot p ∷ [])) (values_in old.gathered s)) (h.series (series_of_point p))
      ∙ ap (λ xs. cond (is_same_series (series_of_point p) s) (Some (xs ++ dot p ∷ [])) (values_in old.gathered s)) (or_nil-unless (values_of points (series_of_point p)))
      ∙ ap (λ o. cond (is_same_series (series_of_point p) s) (Some (values_of points (series_of_point p) ++ dot p ∷ [])) o) (h.series s)
      ∙ one_more points p s (is_same_series (series_of_point p) s) refl ∙ sym (ap unless_empty (values_last points p s));
  are_points = all_last IsPoint points p h.are_points is_point;
}

noted_more : (points : List DataPoint) (p : DataPoint) (names more : Names) → noted_all no_names (flat_map names_of points) ≡ Ok names → noted_all names (names_of p) ≡ Ok more
    → noted_all no_names (flat_map names_of (points ++ p ∷ [])) ≡ Ok more
noted_more points p names more before one =
    ap (noted_all no_names) (names_last points p) ∙ noted_all-append three (flat_map names_of points) (names_of p) no_names ∙ ap (λ r. and_then_noted r (λ more. noted_all more (names_of p))) before ∙ one

-- a point was read behind those of its series
pub reads_point : (points : List DataPoint) (old new : SoFar) (p : DataPoint) (h : Gathers points old) → IsPoint p → Notes old.seen (names_of p) None new.seen
    → ((s : Series) → values_in new.gathered s ≡ cond (is_same_series (series_of_point p) s) (Some (or_nil (values_in old.gathered (series_of_point p)) ++ dot p ∷ [])) (values_in old.gathered s))
    → (more : Gathers (points ++ p ∷ []) new) × (noted_all h.names (names_of p) ≡ Ok more.names)
reads_point points old new p h is_point notes step =
    let noted = notes h.names h.naming in
    let m = more_of points old new p h is_point step in
    (record { names = noted.0; noted = noted_more points p h.names noted.0 h.noted noted.1; naming = noted.2; series = m.series; are_points = m.are_points }, noted.1)

-- a point of a series that was read
pub reads_known : (points : List DataPoint) (old new : SoFar) (p : DataPoint) (list : List (ℕ × ℤ)) (h : Gathers points old) → IsPoint p → values_in old.gathered (series_of_point p) ≡ Some list → new.seen ≡ old.seen
    → ((s : Series) → values_in new.gathered s ≡ cond (is_same_series (series_of_point p) s) (Some (list ++ dot p ∷ [])) (values_in old.gathered s))
    → (more : Gathers (points ++ p ∷ []) new) × (noted_all h.names (names_of p) ≡ Ok more.names)
reads_known points old new p list h is_point found same step =
    let known = known_series h.names points (series_of_point p) list (notes_all three no_names (flat_map names_of points) h.names h.noted).known (sym (h.series (series_of_point p)) ∙ found) in
    let noted = noted_all-known three h.names (names_of p) known in
    let m = more_of points old new p h is_point (λ s. step s ∙ ap (λ o. cond (is_same_series (series_of_point p) s) (Some (or_nil o ++ dot p ∷ [])) (values_in old.gathered s)) (sym found)) in
    (record { names = h.names; noted = noted_more points p h.names h.names h.noted noted; naming = subst (λ (x : Seen). IsNaming h.names x) (sym same) h.naming; series = m.series; are_points = m.are_points }, noted)

-- for one of the names of a point there is no id
pub reads_full : (points : List DataPoint) (old new : SoFar) (p : DataPoint) (kind : Kind) (h : Gathers points old) → Notes old.seen (names_of p) (Some kind) new.seen → noted_all h.names (names_of p) ≡ Err kind
reads_full points old new p kind h notes = notes h.names h.naming
