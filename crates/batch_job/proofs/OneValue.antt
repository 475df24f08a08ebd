-- Points of which no two conflict have one value at each time of a series.
use Rattle.std.proofs.Common.{◌≡◌, ⊎_elim, ℤ, Bool, true, false, List, [], ◌∷◌, Some, map, refl, sym, ap, subst, ◌∙◌}
use Rattle.std.specs.Prelude.{Contains, filter, nat_eq, not}
use Rattle.std.specs.Cmp.{nat_eq_equiv}
use Rattle.std.specs.Cmp.Lexicographic.{nat_list_eq_equiv}
use Rattle.std.specs.List.{flat_map}
use Rattle.std.specs.Ordering.{int_eq}
use Rattle.std.proofs.lemmas.Bool.{and_from}
use Rattle.std.proofs.lemmas.Bool.Decides.{Decides-int_eq}
use Rattle.std.proofs.lemmas.List.Elements.{Contains-append_left, Contains-append_right}
use Rattle.tsd_base.specs.Points.{DataPoint}
use Rattle.tsd_base.specs.LastPoints.{last_points}
use Rattle.tsd_base.specs.TagList.{is_same, is_same_tags}
use Rattle.tsd_base.specs.TagOrder.{is_same_tags_equiv}
use Rattle.cell_model.specs.Readings.{Reading, OneValued, reading_of}
use Rattle.batch_job.specs.Conflicts.{Conflict, are_conflict, conflict_of, conflicts}
use Rattle.batch_job.specs.Pending.{values_of}
use Rattle.point_lines.specs.NameIds.{Names}
use Rattle.batch_job.specs.SeriesValues.{series_of_point}
use Rattle.batch_job.specs.LastValues.{last_at}
use Rattle.batch_job.proofs.LastPoints.{last_points_are}
use Rattle.batch_job.proofs.Lower.{in_map, map_in, not_in, split, to_filter}

-- ---- lists of lists
pub in_flat : {X Y : Type 0} (f : X → List Y) (xs : List X) (x : X) (y : Y) → Contains xs x → Contains (f x) y → Contains (flat_map f xs) y
in_flat f [] x y has there = absurd (not_in x has)
in_flat f (z ∷ xs) x y has there = ⊎_elim
    (λ (same : z ≡ x). Contains-append_left (f z) (flat_map f xs) y (subst (λ w. Contains (f w) y) (sym same) there))
    (λ (later : Contains xs x). Contains-append_right (f z) (flat_map f xs) y (in_flat f xs x y later there))
    (split z x xs has)

-- ---- the last point of a place is one
pub one_place : (ps : List DataPoint) (p q : DataPoint) → Contains (last_points ps) p → Contains (last_points ps) q → series_of_point p ≡ series_of_point q → p.time ≡ q.time → p.value ≡ q.value
one_place ps p q x y series time =
    same (sym ((last_points_are ps p).0 x) ∙ (λ i. last_at (values_of ps (series i)) (time i)) ∙ (last_points_are ps q).0 y)
  where
    same : {v w : ℤ} → Some v ≡ Some w → v ≡ w
    same e = cc

-- ---- a point in seconds and one in milliseconds
module _ (p q : DataPoint) (metric : p.metric ≡ q.metric) (tags : p.tags ≡ q.tags) (time : p.time ≡ q.time) where
  pub are_two : p.fine ≡ false → q.fine ≡ true → int_eq p.value q.value ≡ false → are_conflict p q ≡ true
  are_two coarse fine apart =
      and_from _ _ (ap not coarse)
      (and_from _ _ fine
      (and_from _ _ ((λ i. is_same (metric i) q.metric) ∙ nat_list_eq_equiv.refl q.metric)
      (and_from _ _ ((λ i. is_same_tags (tags i) q.tags) ∙ is_same_tags_equiv.refl q.tags) (and_from _ _ ((λ i. nat_eq (time i) q.time) ∙ nat_eq_equiv.refl q.time) (ap not apart)))))

pub among_conflicts : (names : Names) (ps : List DataPoint) (p q : DataPoint) → Contains ps p → Contains ps q → are_conflict p q ≡ true → Contains (conflicts names ps) (conflict_of names p q)
among_conflicts names ps p q x y conflict =
    in_flat (λ r. map (conflict_of names r) (filter (are_conflict r) ps)) ps p (conflict_of names p q) x (in_map (conflict_of names p) (filter (are_conflict p) ps) q (to_filter (are_conflict p) ps q y conflict))

-- ---- without conflicts there is one value
module _ (points ps : List DataPoint) (last : (p : DataPoint) → Contains ps p → Contains (last_points points) p) (names : Names) (conflict_free : conflicts names ps ≡ []) where
  across : (p q : DataPoint) → Contains ps p → Contains ps q → p.metric ≡ q.metric → p.tags ≡ q.tags → p.time ≡ q.time → p.fine ≡ false → q.fine ≡ true → (b : Bool) → int_eq p.value q.value ≡ b → p.value ≡ q.value
  across p q x y metric tags time coarse fine true e = (Decides-int_eq p.value q.value).0 e
  across p q x y metric tags time coarse fine false e =
      absurd (not_in (conflict_of names p q) (subst (λ (cs : List Conflict). Contains cs (conflict_of names p q)) conflict_free (among_conflicts names ps p q x y (are_two p q metric tags time coarse fine e))))

  by_form : (p q : DataPoint) → Contains ps p → Contains ps q → p.metric ≡ q.metric → p.tags ≡ q.tags → p.time ≡ q.time → (f g : Bool) → p.fine ≡ f → q.fine ≡ g → p.value ≡ q.value
  by_form p q x y metric tags time true true e k = one_place points p q (last p x) (last q y) (λ i. ((metric i, tags i), (e ∙ sym k) i)) time
  by_form p q x y metric tags time false false e k = one_place points p q (last p x) (last q y) (λ i. ((metric i, tags i), (e ∙ sym k) i)) time
  by_form p q x y metric tags time false true e k = across p q x y metric tags time e k (int_eq p.value q.value) refl
  by_form p q x y metric tags time true false e k = sym (across q p y x (sym metric) (sym tags) (sym time) k e (int_eq q.value p.value) refl)

  pub one_valued : OneValued (Contains (map reading_of ps))
  one_valued a b x y m =
      let p = map_in reading_of ps a x in
      let q = map_in reading_of ps b y in
      let metric : (p.0).metric ≡ (q.0).metric = ap (λ (r : Reading). r.metric) p.2 ∙ m.metric ∙ sym (ap (λ (r : Reading). r.metric) q.2) in
      let tags : (p.0).tags ≡ (q.0).tags = ap (λ (r : Reading). r.tags) p.2 ∙ m.tags ∙ sym (ap (λ (r : Reading). r.tags) q.2) in
      let time : (p.0).time ≡ (q.0).time = ap (λ (r : Reading). r.time) p.2 ∙ m.time ∙ sym (ap (λ (r : Reading). r.time) q.2) in
      sym (ap (λ (r : Reading). r.value) p.2) ∙ by_form p.0 q.0 p.1 q.1 metric tags time (p.0).fine (q.0).fine refl refl ∙ ap (λ (r : Reading). r.value) q.2
