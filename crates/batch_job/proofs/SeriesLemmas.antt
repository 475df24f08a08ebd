-- The series that were read.
use Rattle.std.proofs.Common.{◌≡◌, ℕ, ℤ, Bool, true, false, cond, ◌||◌, List, [], ◌∷◌, Option, Some, None, map, refl, sym, ap, subst, inl, inr, arith}
use Rattle.std.specs.Prelude.{filter, Contains}
use Rattle.std.specs.List.{AllByRecursion, list_any}
use Rattle.std.specs.Map.{lookup}
use Rattle.std.proofs.lemmas.Bool.{cases_Bool, true≢false}
use Rattle.std.proofs.lemmas.List.Elements.{Contains-append_right}
use Rattle.tsd_base.specs.Moments.{IsTime}
use Rattle.tsd_base.specs.Points.{DataPoint}
use Rattle.tsd_base.specs.Alphabet.{IsName}
use Rattle.tsd_base.specs.TagList.{IsPair, Pair, is_same}
use Rattle.tsd_base.specs.declared.kinds.Kind.{Kind}
use Rattle.tsd_base.specs.declared.kinds.Kind.TheVariants.{Metric, TagKey, TagValue}
use Rattle.cell_model.specs.Layout.{IsPoint}
pub use Rattle.point_lines.proofs.CallerLemmas.{point_names}
use Rattle.batch_job.specs.NotedIds.{names_in}
use Rattle.batch_job.specs.JobAnswers.{has_name}
use Rattle.batch_job.proofs.LastPoints.{same_bytes}
use Rattle.batch_job.specs.Pending.{values_of, unless_empty}
use Rattle.batch_job.specs.PendingPuts.{AreTimes}
use Rattle.batch_job.specs.SeriesValues.{Series, is_same_series, series_of_point}
use Rattle.batch_job.proofs.GatherLemmas.{dot, same_series, none_not_some}

unless_is : (xs ys : List (ℕ × ℤ)) → unless_empty xs ≡ Some ys → ys ≡ xs
unless_is [] ys is = absurd (none_not_some is)
unless_is (x ∷ xs) ys is = ap (list_or (x ∷ xs)) (sym is)
  where
    list_or : List (ℕ × ℤ) → Option (List (ℕ × ℤ)) → List (ℕ × ℤ)
    list_or other None = other
    list_or other (Some zs) = zs

pub values_are : (ps : List DataPoint) (s : Series) (values : List (ℕ × ℤ)) → unless_empty (values_of ps s) ≡ Some values → values ≡ values_of ps s
values_are ps s values is = unless_is (values_of ps s) values is

-- a name that a point has
tag_named : (tags : List Pair) (part : Pair → List ℕ) (name : List ℕ) → AllByRecursion IsPair tags → ((t : Pair) → IsPair t → IsName (part t)) → list_any (λ t. is_same (part t) name) tags ≡ true → IsName name
tag_named [] part name are each e = absurd (true≢false (sym e))
tag_named (t ∷ tags) part name are each e = at (is_same (part t) name) refl e (tag_named tags part name are.1 each)
  where
    at : (b : Bool) → is_same (part t) name ≡ b → (b || list_any (λ u. is_same (part u) name) tags) ≡ true → (list_any (λ u. is_same (part u) name) tags ≡ true → IsName name) → IsName name
    at true same e rest = subst IsName (same_bytes (part t) name same) (each t are.0)
    at false same e rest = rest e

named_so : (p : DataPoint) → IsPoint p → (kind : Kind) (name : List ℕ) → has_name (kind, name) p ≡ true → IsName name
named_so p is Metric name e = subst IsName (same_bytes p.metric name e) is.metric
named_so p is TagKey name e = tag_named p.tags (λ t. t.0) name is.tags.names (λ t pair. pair.0) e
named_so p is TagValue name e = tag_named p.tags (λ t. t.1) name is.tags.names (λ t pair. pair.1) e

-- a name that a point has is one
pub name_of_points : (ps : List DataPoint) → AllByRecursion IsPoint ps → (n : Kind × List ℕ) → list_any (has_name n) ps ≡ true → IsName n.1
name_of_points [] are n e = absurd (true≢false (sym e))
name_of_points (p ∷ ps) are n e = at (has_name n p) refl e (name_of_points ps are.1 n)
  where
    at : (b : Bool) → has_name n p ≡ b → (b || list_any (has_name n) ps) ≡ true → (list_any (has_name n) ps ≡ true → IsName n.1) → IsName n.1
    at true has e rest = named_so p are.0 n.0 n.1 has
    at false has e rest = rest e

pub named_series : (ps : List DataPoint) (s : Series) (values : List (ℕ × ℤ)) → AllByRecursion IsPoint ps → unless_empty (values_of ps s) ≡ Some values → (n : Kind × List ℕ) → Contains (names_in s.0.0 s.0.1) n → IsName n.1
named_series [] s values are is = absurd (none_not_some is)
named_series (p ∷ ps) s values are is =
    elim (is_same_series (series_of_point p) s) as (λ b. is_same_series (series_of_point p) s ≡ b → unless_empty (map dot (cond b (p ∷ filter (λ q. is_same_series (series_of_point q) s) ps) (filter (λ q. is_same_series (series_of_point q) s) ps))) ≡ Some values → (n : Kind × List ℕ) → Contains (names_in s.0.0 s.0.1) n → IsName n.1) [
      | true ↦ λ e _. subst (λ (t : Series). (n : Kind × List ℕ) → Contains (names_in t.0.0 t.0.1) n → IsName n.1) (same_series (series_of_point p) s e) (point_names p are.0)
      | false ↦ λ _ found. named_series ps s values are.1 found
    ] refl is

-- the times of points
time_of : (p : DataPoint) (s : Series) → IsPoint p → series_of_point p ≡ s → IsTime p.time s.1
time_of p s is_point same = subst (IsTime p.time) (ap (λ (t : Series). t.1) same) is_point.timed

pub times_of_values : (ps : List DataPoint) (s : Series) → AllByRecursion IsPoint ps → AreTimes s.1 (values_of ps s)
times_of_values [] s are = tt
times_of_values (p ∷ ps) s are =
    elim (is_same_series (series_of_point p) s) as (λ b. is_same_series (series_of_point p) s ≡ b → AllByRecursion (λ (d : ℕ × ℤ). IsTime d.0 s.1) (map dot (cond b (p ∷ filter (λ q. is_same_series (series_of_point q) s) ps) (filter (λ q. is_same_series (series_of_point q) s) ps)))) [
      | true ↦ λ e. (time_of p s are.0 (same_series (series_of_point p) s e), times_of_values ps s are.1)
      | false ↦ λ _. times_of_values ps s are.1
    ] refl

-- ---- what a look-up finds
pub record FoundAt {K X : Type 0} (test : K → Bool) (es : List (K × X)) (x : X) : Type 0 where
  pub key : K
  pub among : Contains es (key, x)
  pub passes : test key ≡ true

pub lookup_contains : {K X : Type 0} (test : K → Bool) (es : List (K × X)) (x : X) → lookup test es ≡ Some x → FoundAt test es x
lookup_contains test [] x is = absurd cc
lookup_contains test (e ∷ es) x is = elim (cases_Bool (test e.0)) [
  | inl here ↦ record { key = e.0; among = (0, omega arith, λ i. (e.0, some_is e.1 x (rw here at is) i)); passes = here }
  | inr other ↦
      let rest = lookup_contains test es x (rw other at is) in
      record { key = rest.key; among = Contains-append_right (e ∷ []) es (rest.key, x) rest.among; passes = rest.passes }
]
  where
    some_is : {X : Type 0} (a b : X) → Some a ≡ Some b → a ≡ b
    some_is a b is = cc
