-- Points with the same readings have the same answer.
use Rattle.std.proofs.Common.{◌≡◌, inl, inr, ℕ, ℤ, Bool, true, false, cond, List, [], ◌∷◌, Option, Some, None, Ok, map, refl, sym, ap, ◌∙◌, arith}
use Rattle.std.specs.Prelude.{Contains, filter, nat_eq}
use Rattle.std.specs.List.{AllZip, list_any}
use Rattle.std.specs.Map.{lookup}
use Rattle.std.proofs.lemmas.Bool.Decides.{nat_tests}
use Rattle.lerp_aggregate.specs.Aggregation.{value_at}
use Rattle.lerp_aggregate.specs.Laws.{AreAlike}
use Rattle.lerp_aggregate.specs.Laws as aggregate
use Rattle.downsample.specs.Laws as down
use Rattle.cell_model.specs.Readings.{Reading, reading_of}
use Rattle.query_run.proofs.Lower.{here, there, split, not_in, map_in, in_map}
use Rattle.tsd_base.specs.declared.kinds.Aggregator.{Aggregator}
use Rattle.tsd_base.specs.declared.kinds.Down.{Down}
use Rattle.query_text.specs.declared.queries.Query.{Query}
use Rattle.query_text.specs.declared.queries.Sub.{Sub}
use Rattle.tsd_base.specs.Points.{DataPoint}
use Rattle.tsd_base.specs.LastPoints.{series_of, dots_of}
use Rattle.tsd_base.specs.TagList.{Pair, is_same_tags}
use Rattle.tsd_base.specs.TagOrder.{is_same_tags_equiv, tags_same}
use Rattle.series_groups.specs.QueryAnswers.{answer, aggregated_all, all_groups, all_or_least, down_by, down_to, group_answer, groups_in, grouped}
use Rattle.query_run.specs.Laws.{HaveSameReadings, AreOneValued, AnswerIsUnordered}
use Rattle.series_groups.proofs.AnyOf.{in_any, any_in}
use Rattle.series_groups.proofs.Keys.{same_series}

-- ---- the value of a series at a time
abbrev IsFound : List DataPoint → List Pair → ℕ → Option ℤ → Type 0
IsFound ps t time (Some v) = (p : DataPoint) × Contains ps p × (p.tags ≡ t) × (p.time ≡ time) × (p.value ≡ v)
IsFound ps t time None = (p : DataPoint) → Contains ps p → p.tags ≡ t → p.time ≡ time → ⊥

false_is_not_true : false ≡ true → ⊥
false_is_not_true is = absurd (grind (arith, is))

is_time : (a b : ℕ) → nat_eq a b ≡ true → b ≡ a
is_time a b e = grind (arith, nat_tests, e)

not_time : (a b : ℕ) → nat_eq a b ≡ false → b ≡ a → ⊥
not_time a b e is = absurd (grind (arith, nat_tests, e, is))

not_tags : (x t : List Pair) → is_same_tags x t ≡ false → x ≡ t → ⊥
not_tags x t e is = false_is_not_true (sym e ∙ ap (λ y. is_same_tags y t) is ∙ is_same_tags_equiv.refl t)

module _ (t : List Pair) (time : ℕ) (p : DataPoint) (ps : List DataPoint) where
  -- what isn't found in the first point is found in the others
  later : (o : Option ℤ) → (p.tags ≡ t → p.time ≡ time → ⊥) → IsFound ps t time o → IsFound (p ∷ ps) t time o
  later (Some v) other f = (f.0, there p f.0 ps f.1, f.2, f.3, f.4)
  later None other none = λ q among tags at. elim (split p q ps among) [
    | inl same ↦ other (ap (λ (x : DataPoint). x.tags) same ∙ tags) (ap (λ (x : DataPoint). x.time) same ∙ at)
    | inr c ↦ none q c tags at
  ]

  abbrev kept : List (ℕ × ℤ)
  kept = dots_of ps t

  at_time : (b : Bool) → nat_eq time p.time ≡ b → is_same_tags p.tags t ≡ true → IsFound ps t time (value_at kept time) → IsFound (p ∷ ps) t time (cond b (Some p.value) (value_at kept time))
  at_time true e tags rest = (p, here p ps, tags_same p.tags t tags, is_time time p.time e, refl)
  at_time false e tags rest = later (value_at kept time) (λ same at. not_time time p.time e at) rest

  at_tags : (b : Bool) → is_same_tags p.tags t ≡ b → IsFound ps t time (value_at kept time)
      → IsFound (p ∷ ps) t time (lookup (nat_eq time) (map (λ (q : DataPoint). (q.time, q.value)) (cond b (p ∷ filter (λ (q : DataPoint). is_same_tags q.tags t) ps) (filter (λ (q : DataPoint). is_same_tags q.tags t) ps))))
  at_tags true e rest = at_time (nat_eq time p.time) refl e rest
  at_tags false e rest = later (value_at kept time) (λ same at. not_tags p.tags t e same) rest

found : (ps : List DataPoint) (t : List Pair) (time : ℕ) → IsFound ps t time (value_at (dots_of ps t) time)
found [] t time = λ p among tags at. not_in p among
found (p ∷ ps) t time = at_tags t time p ps (is_same_tags p.tags t) refl (found ps t time)

-- ---- the tags of points
both_ways : (a b : Bool) → (a ≡ true → b ≡ true) → (b ≡ true → a ≡ true) → a ≡ b
both_ways true b f g = sym (f refl)
both_ways false true f g = g refl
both_ways false false f g = refl

-- ---- series that are alike
all_plain : (lists : List (List (ℕ × ℤ))) (start end : ℕ) → all_or_least (map (down_to None start end) lists) ≡ Ok lists
all_plain [] start end = refl
all_plain (l ∷ lists) start end = rw (all_plain lists start end) refl

all_down : down.DependsOnValuesAlone → (how : Down) (start end : ℕ) (xs ys : List (List (ℕ × ℤ))) → AllZip AreAlike xs ys → map (down_to (Some how) start end) xs ≡ map (down_to (Some how) start end) ys
all_down downs how start end [] [] z = refl
all_down downs how start end [] (y ∷ ys) z = absurd z
all_down downs how start end (x ∷ xs) [] z = absurd z
all_down downs how start end (x ∷ xs) (y ∷ ys) z = λ i. downs how start end x y z.0 i ∷ all_down downs how start end xs ys z.1 i

-- they make the same points, downsampled or not
alike_group : aggregate.DependsOnValuesAlone → down.DependsOnValuesAlone → (how : Aggregator) (by : Option Down) (start end : ℕ) (xs ys : List (List (ℕ × ℤ))) → AllZip AreAlike xs ys
    → aggregated_all how (all_or_least (map (down_to by start end) xs)) ≡ aggregated_all how (all_or_least (map (down_to by start end) ys))
alike_group aggregates downs how None start end xs ys z = ap (aggregated_all how) (all_plain xs start end) ∙ aggregates how xs ys z ∙ sym (ap (aggregated_all how) (all_plain ys start end))
alike_group aggregates downs how (Some d) start end xs ys z = ap (λ l. aggregated_all how (all_or_least l)) (all_down downs d start end xs ys z)

-- ---- the same readings
-- a point with the same reading
abbrev HasLike : List DataPoint → DataPoint → Type 0
HasLike ps p = (q : DataPoint) × Contains ps q × (reading_of q ≡ reading_of p)

like_in : (xs ys : List DataPoint) → ((r : Reading) → Contains (map reading_of xs) r → Contains (map reading_of ys) r) → (p : DataPoint) → Contains xs p → HasLike ys p
like_in xs ys along p among = map_in reading_of ys (reading_of p) (along (reading_of p) (in_map reading_of xs p among))

any_along : (xs ys : List DataPoint) → ((p : DataPoint) → Contains xs p → HasLike ys p) → (q : List Pair) → list_any (λ p. is_same_tags p.tags q) xs ≡ true → list_any (λ p. is_same_tags p.tags q) ys ≡ true
any_along xs ys like q e =
    let w = any_in (λ (p : DataPoint). is_same_tags p.tags q) xs e in
    let l = like w.0 w.1 in
    in_any (λ (p : DataPoint). is_same_tags p.tags q) l.0 ys l.1 (ap (λ (r : Reading). is_same_tags r.tags q) l.2 ∙ w.2)

module _ (xs ys : List DataPoint) (same : HaveSameReadings xs ys) (one : AreOneValued xs) where
  to_ys : (p : DataPoint) → Contains xs p → HasLike ys p
  to_ys = like_in xs ys (λ r. (same r).0)

  to_xs : (p : DataPoint) → Contains ys p → HasLike xs p
  to_xs = like_in ys xs (λ r. (same r).1)

  series_same : series_of xs ≡ series_of ys
  series_same = same_series xs ys (λ q. both_ways (list_any (λ (p : DataPoint). is_same_tags p.tags q) xs) (list_any (λ (p : DataPoint). is_same_tags p.tags q) ys) (any_along xs ys to_ys q) (any_along ys xs to_xs q))

  module _ (t : List Pair) (time : ℕ) where
    values_same : (v w : Option ℤ) → IsFound xs t time v → IsFound ys t time w → v ≡ w
    values_same None None f g = refl
    values_same (Some v) None f g =
        let l = to_ys f.0 f.1 in
        absurd (g l.0 l.1 (ap (λ (r : Reading). r.tags) l.2 ∙ f.2) (ap (λ (r : Reading). r.time) l.2 ∙ f.3))
    values_same None (Some w) f g =
        let l = to_xs g.0 g.1 in
        absurd (f l.0 l.1 (ap (λ (r : Reading). r.tags) l.2 ∙ g.2) (ap (λ (r : Reading). r.time) l.2 ∙ g.3))
    values_same (Some v) (Some w) f g =
        let l = to_xs g.0 g.1 in
        let tags = f.2 ∙ sym (ap (λ (r : Reading). r.tags) l.2 ∙ g.2) in
        let times = f.3 ∙ sym (ap (λ (r : Reading). r.time) l.2 ∙ g.3) in
        ap (λ x. Some x) (sym f.4 ∙ one f.0 l.0 f.1 l.1 tags times ∙ ap (λ (r : Reading). r.value) l.2 ∙ g.4)

  lists_alike : (series : List (List Pair)) → AllZip AreAlike (map (dots_of xs) series) (map (dots_of ys) series)
  lists_alike [] = tt
  lists_alike (t ∷ series) = (λ time. values_same t time (value_at (dots_of xs t) time) (value_at (dots_of ys t) time) (found xs t time) (found ys t time), lists_alike series)

  each_group : aggregate.DependsOnValuesAlone → down.DependsOnValuesAlone → (q : Query) (s : Sub) (series : List (List Pair)) → group_answer q s xs series ≡ group_answer q s ys series
  each_group aggregates downs q s series =
      ap (grouped q.ms s.metric series) (alike_group aggregates downs s.how (down_by q.ms s.how s.down) q.start q.end (map (dots_of xs) series) (map (dots_of ys) series) (lists_alike series))

  same_answer : aggregate.DependsOnValuesAlone → down.DependsOnValuesAlone → (q : Query) (s : Sub) → answer q s xs ≡ answer q s ys
  same_answer aggregates downs q s = λ i. all_groups (map (λ series. each_group aggregates downs q s series i) (groups_in s (series_same i)))

pub unordered : aggregate.DependsOnValuesAlone → down.DependsOnValuesAlone → AnswerIsUnordered
unordered aggregates downs q s xs ys same one = same_answer xs ys same one aggregates downs q s
