-- The last points of each place.
use Rattle.std.proofs.Common.{◌≡◌, ℕ, ℤ, Bool, true, false, cond, ◌&&◌, ◌||◌, List, [], ◌∷◌, Option, None, Some, map, refl, sym, ap, subst, ◌∙◌, ⊎_elim}
use Rattle.std.specs.Prelude.{◌↔◌, not, if◌then◌else◌, nat_eq, is_some, filter, Contains}
use Rattle.std.specs.Option.{option_or}
use Rattle.std.specs.Bool.{beq}
use Rattle.std.specs.Cmp.{bool_eq_equiv, nat_eq_equiv}
use Rattle.std.specs.Cmp.Lexicographic.{nat_list_eq_equiv}
use Rattle.std.specs.List.{AllByRecursion, list_any}
use Rattle.std.proofs.lemmas.Bool.{and_parts, and_from, true≢false, eqb-true, false_from_ne_true}
use Rattle.tsd_base.specs.Points.{DataPoint}
use Rattle.tsd_base.specs.LastPoints.{is_same_place, last_points}
use Rattle.tsd_base.specs.TagList.{is_same_tags}
use Rattle.tsd_base.specs.TagOrder.{is_same_tags_equiv, tags_same}
use Rattle.tsd_base.specs.Tags.{Pair, is_same}
use Rattle.batch_job.specs.Pending.{values_of}
use Rattle.batch_job.specs.SeriesValues.{Series, is_same_series, series_of_point}
use Rattle.batch_job.specs.LastValues.{last_at}
pub use Rattle.point_lines.proofs.CallerLemmas.{same_bytes}
use Rattle.batch_job.proofs.Lower.{here, there, split, not_in}

-- two tests that follow from each other
pub both_ways : {a b : Bool} → (a ≡ true → b ≡ true) → (b ≡ true → a ≡ true) → a ≡ b
both_ways {a} {b} to from =
    elim a as (λ x. a ≡ x → x ≡ b) [
      | true ↦ λ e. sym (to e)
      | false ↦ λ e. sym (false_from_ne_true b (λ h. true≢false (sym (from h) ∙ e)))
    ] refl

-- ---- points of one place
record IsAlike (p q : DataPoint) : Type 0 where
  pub metric : p.metric ≡ q.metric
  pub tags : p.tags ≡ q.tags
  pub time : p.time ≡ q.time
  pub fine : p.fine ≡ q.fine

forms_same : (a b : Bool) → (if a then b else not b) ≡ true → a ≡ b
forms_same true true e = refl
forms_same true false e = absurd (true≢false (sym e))
forms_same false true e = absurd (true≢false (sym e))
forms_same false false e = refl

same_form : (a : Bool) → (if a then a else not a) ≡ true
same_form true = refl
same_form false = refl

IsAlike-from_same_place : (p q : DataPoint) → is_same_place p q ≡ true → IsAlike p q
IsAlike-from_same_place p q e =
    let m = and_parts _ _ e in
    let t = and_parts _ _ m.1 in
    let n = and_parts _ _ t.1 in
    record { metric = same_bytes p.metric q.metric m.0; tags = tags_same p.tags q.tags t.0; time = eqb-true p.time q.time n.0; fine = forms_same p.fine q.fine n.1 }

same_place_itself : (metric : List ℕ) (tags : List Pair) (time : ℕ) (fine : Bool) (value w : ℤ)
    → is_same_place (record { metric = metric; tags = tags; time = time; fine = fine; value = value }) (record { metric = metric; tags = tags; time = time; fine = fine; value = w }) ≡ true
same_place_itself metric tags time fine value w =
    and_from _ _ (nat_list_eq_equiv.refl metric) (and_from _ _ (is_same_tags_equiv.refl tags) (and_from _ _ (nat_eq_equiv.refl time) (same_form fine)))

same_place-from_alike : (p q : DataPoint) → IsAlike p q → is_same_place p q ≡ true
same_place-from_alike p q e =
    (λ i. is_same_place (record { metric = e.metric i; tags = e.tags i; time = e.time i; fine = e.fine i; value = p.value }) q)
    ∙ same_place_itself q.metric q.tags q.time q.fine q.value q.value

abbrev pub last_by : (DataPoint → Bool) → List DataPoint → Option ℤ
last_by test [] = None
last_by test (p ∷ ps) = option_or (last_by test ps) (cond (test p) (Some p.value) None)

is_some-or : (o : Option ℤ) (b : Bool) (v : ℤ) → is_some (option_or o (cond b (Some v) None)) ≡ (b || is_some o)
is_some-or None true v = refl
is_some-or None false v = refl
is_some-or (Some w) true v = refl
is_some-or (Some w) false v = refl

pub is_some-last_by : (test : DataPoint → Bool) (ps : List DataPoint) → is_some (last_by test ps) ≡ list_any test ps
is_some-last_by test [] = refl
is_some-last_by test (p ∷ ps) = is_some-or (last_by test ps) (test p) p.value ∙ ap (λ b. test p || b) (is_some-last_by test ps)

-- a test that passes exactly the points of one place
module _ (test : DataPoint → Bool) (alike : (p q : DataPoint) → IsAlike p q → test p ≡ test q) (apart : (p q : DataPoint) → test p ≡ true → test q ≡ true → IsAlike p q) where
  same_test : (p q : DataPoint) → test p ≡ true → is_same_place p q ≡ test q
  same_test p q here =
      both_ways (λ e. sym (alike p q (IsAlike-from_same_place p q e)) ∙ here) (λ e. same_place-from_alike p q (apart p q here e))

  any_place : (p : DataPoint) (ps : List DataPoint) → test p ≡ true → list_any (is_same_place p) ps ≡ list_any test ps
  any_place p [] here = refl
  any_place p (q ∷ ps) here = λ i. same_test p q here i || any_place p ps here i

  -- a last point that passes has the value of the last one that passes
  last_of : (ps : List DataPoint) (q : DataPoint) → Contains (last_points ps) q → test q ≡ true → last_by test ps ≡ Some q.value
  last_of [] q has passes = absurd (not_in q has)
  last_of (p ∷ ps) q has passes = elim (list_any (is_same_place p) ps) as (λ b. list_any (is_same_place p) ps ≡ b → Contains (cond b (last_points ps) (p ∷ last_points ps)) q → option_or (last_by test ps) (cond (test p) (Some p.value) None) ≡ Some q.value) [
    | true ↦ λ e later. ap (λ o. option_or o (cond (test p) (Some p.value) None)) (last_of ps q later passes)
    | false ↦ λ e there_. ⊎_elim
        (λ (is : p ≡ q).
        let here_ : test p ≡ true = ap test is ∙ passes in
        let none : last_by test ps ≡ None = no_value (last_by test ps) (is_some-last_by test ps ∙ sym (any_place p ps here_) ∙ e) in
        ap (λ o. option_or o (cond (test p) (Some p.value) None)) none ∙ ap (λ b. cond b (Some p.value) None) here_ ∙ ap (λ (x : DataPoint). Some x.value) is)
        (λ (later : Contains (last_points ps) q). ap (λ o. option_or o (cond (test p) (Some p.value) None)) (last_of ps q later passes))
        (split p q (last_points ps) there_)
  ] refl has
    where
      no_value : (o : Option ℤ) → is_some o ≡ false → o ≡ None
      no_value None e = refl
      no_value (Some v) e = absurd (true≢false e)

  -- the last value that passes is that of a last point
  record Last (ps : List DataPoint) (v : ℤ) : Type 0 where
    pub point : DataPoint
    pub among : Contains (last_points ps) point
    pub passes : test point ≡ true
    pub value_is : point.value ≡ v

  behind : (p : DataPoint) (ps : List DataPoint) (q : DataPoint) → Contains (last_points ps) q → Contains (last_points (p ∷ ps)) q
  behind p ps q has = elim (list_any (is_same_place p) ps) as (λ b. Contains (cond b (last_points ps) (p ∷ last_points ps)) q) [
    | true ↦ has
    | false ↦ there p q (last_points ps) has
  ]

  a_last : (ps : List DataPoint) (v : ℤ) → last_by test ps ≡ Some v → Last ps v
  a_last [] v is = absurd (no_some is)
    where
      no_some : {v : ℤ} → None ≡ Some v → ⊥
      no_some e = cc
  a_last (p ∷ ps) v is = at (λ w told. a_last ps w told) (last_by test ps) refl is
    where
      now : last_by test ps ≡ None → (b : Bool) → test p ≡ b → cond b (Some p.value) None ≡ Some v → Last (p ∷ ps) v
      now told false e is = absurd cc
      now told true e is =
          let none : list_any (is_same_place p) ps ≡ false = any_place p ps e ∙ sym (is_some-last_by test ps) ∙ ap is_some told in
          record {
            point = p;
            among = subst (λ b. Contains (cond b (last_points ps) (p ∷ last_points ps)) p) (sym none) (here p (last_points ps));
            passes = e;
            value_is = cc;
          }

      at : ((w : ℤ) → last_by test ps ≡ Some w → Last ps w) → (o : Option ℤ) → last_by test ps ≡ o → option_or o (cond (test p) (Some p.value) None) ≡ Some v → Last (p ∷ ps) v
      at rest (Some w) told is =
          let l = rest v (told ∙ is) in
          record { point = l.point; among = behind p ps l.point l.among; passes = l.passes; value_is = l.value_is }
      at rest None told is = now told (test p) refl is

-- ---- the points of a series at a time
abbrev at_time : Series → ℕ → DataPoint → Bool
at_time s time p = is_same_series (series_of_point p) s && nat_eq p.time time

last_at-values : (ps : List DataPoint) (s : Series) (time : ℕ) → last_at (values_of ps s) time ≡ last_by (at_time s time) ps
last_at-values [] s time = refl
last_at-values (p ∷ ps) s time =
    elim (is_same_series (series_of_point p) s) as (λ b. last_at (map (λ (q : DataPoint). (q.time, q.value)) (cond b (p ∷ filter (λ q. is_same_series (series_of_point q) s) ps) (filter (λ q. is_same_series (series_of_point q) s) ps))) time ≡ option_or (last_by (at_time s time) ps) (cond (b && nat_eq p.time time) (Some p.value) None)) [
      | true ↦ ap (λ o. option_or o (cond (nat_eq p.time time) (Some p.value) None)) (last_at-values ps s time)
      | false ↦ last_at-values ps s time ∙ or_none (last_by (at_time s time) ps)
    ]
  where
    or_none : (o : Option ℤ) → o ≡ option_or o None
    or_none None = refl
    or_none (Some v) = refl

pub beq_same : (a b : Bool) → beq a b ≡ true → a ≡ b
beq_same true true e = refl
beq_same true false e = absurd (true≢false (sym e))
beq_same false true e = absurd (true≢false (sym e))
beq_same false false e = refl

record IsAt (s : Series) (time : ℕ) (p : DataPoint) : Type 0 where
  pub named : p.metric ≡ s.0.0
  pub tagged : p.tags ≡ s.0.1
  pub formed : p.fine ≡ s.1
  pub timed : p.time ≡ time

is_at : (s : Series) (time : ℕ) (p : DataPoint) → at_time s time p ≡ true → IsAt s time p
is_at s time p e =
    let b = and_parts _ _ e in
    let f = and_parts _ _ b.0 in
    let c = and_parts _ _ f.0 in
    record { named = same_bytes p.metric s.0.0 c.0; tagged = tags_same p.tags s.0.1 c.1; formed = beq_same p.fine s.1 f.1; timed = eqb-true p.time time b.1 }

at_itself : (p : DataPoint) → at_time (series_of_point p) p.time p ≡ true
at_itself p = and_from _ _ (and_from _ _ (and_from _ _ (nat_list_eq_equiv.refl p.metric) (is_same_tags_equiv.refl p.tags)) (bool_eq_equiv.refl p.fine)) (nat_eq_equiv.refl p.time)

alike_at : (s : Series) (time : ℕ) (p q : DataPoint) → IsAlike p q → at_time s time p ≡ at_time s time q
alike_at s time p q e = λ i. ((is_same (e.metric i) s.0.0 && is_same_tags (e.tags i) s.0.1) && beq (e.fine i) s.1) && nat_eq (e.time i) time

apart_at : (s : Series) (time : ℕ) (p q : DataPoint) → at_time s time p ≡ true → at_time s time q ≡ true → IsAlike p q
apart_at s time p q e f =
    let h = is_at s time p e in
    let k = is_at s time q f in
    record { metric = h.named ∙ sym k.named; tags = h.tagged ∙ sym k.tagged; time = h.timed ∙ sym k.timed; fine = h.formed ∙ sym k.formed }

-- the last points have exactly the last values of the series
pub last_points_are : (ps : List DataPoint) (p : DataPoint) → Contains (last_points ps) p ↔ (last_at (values_of ps (series_of_point p)) p.time ≡ Some p.value)
last_points_are ps p = (to, from)
  where
    s : Series
    s = series_of_point p

    to : Contains (last_points ps) p → last_at (values_of ps (series_of_point p)) p.time ≡ Some p.value
    to has = last_at-values ps s p.time ∙ last_of (at_time s p.time) (alike_at s p.time) (apart_at s p.time) ps p has (at_itself p)

    from : last_at (values_of ps (series_of_point p)) p.time ≡ Some p.value → Contains (last_points ps) p
    from is =
        let l = a_last (at_time s p.time) (alike_at s p.time) (apart_at s p.time) ps p.value (sym (last_at-values ps s p.time) ∙ is) in
        let a = is_at s p.time l.point l.passes in
        let same : l.point ≡ p = λ i. record { metric = a.named i; tags = a.tagged i; time = a.timed i; fine = a.formed i; value = l.value_is i } in
        subst (Contains (last_points ps)) same l.among

-- what holds of points holds of the last of them
pub last_hold : (P : DataPoint → Type 0) (points : List DataPoint) → AllByRecursion P points → AllByRecursion P (last_points points)
last_hold P [] all = tt
last_hold P (p ∷ points) all = elim (list_any (is_same_place p) points) as (λ b. AllByRecursion P (cond b (last_points points) (p ∷ last_points points))) [
  | true ↦ last_hold P points all.1
  | false ↦ (all.0, last_hold P points all.1)
]
