-- The points of all series in the store.
use Rattle.row_key.specs.Made.{three}
use Rattle.std.proofs.Common.{◌≡◌, ◌⊎◌, inl, inr, ⊎_elim, ℕ, ℤ, Bool, true, List, [], ◌∷◌, ◌++◌, ◌+◌, ◌<◌, ◌≤◌, length, take, zero, suc, get_or, refl, sym, ap, subst, ◌∙◌, arith, append_assoc, append-nil}
use Rattle.std.specs.Prelude.{◌↔◌, Option, None, Some, All, Contains, OnOk, Result, Ok, Err, is_some, pos}
use Rattle.std.specs.List.{flat_map}
use Rattle.std.proofs.lemmas.Bool.{true≢false}
use Rattle.std.proofs.lemmas.List.Elements.{All-contains, All-weaker, All-from_recursion, Contains-append_cases, Contains-append_left, Contains-append_right}
use Rattle.lerp_aggregate.specs.Aggregation.{value_at}
use Rattle.tsd_base.specs.Alphabet.{IsName}
use Rattle.tsd_base.specs.Dots.{IsRising}
use Rattle.tsd_base.specs.Points.{DataPoint}
use Rattle.tsd_base.specs.TagList.{Pair}
use Rattle.tsd_base.specs.declared.kinds.Kind.{Kind}
use Rattle.tsd_base.specs.declared.kinds.Kind.TheVariants.{Metric}
use Rattle.cell_model.specs.History.{first}
use Rattle.cell_model.specs.Layout.{names_of, tag_names}
use Rattle.cell_model.specs.Seen.{Seen}
use Rattle.batch_job.specs.Pending.{Gathers, SoFar, unless_empty, values_of}
use Rattle.point_lines.specs.NameIds.{id_in}
use Rattle.point_lines.proofs.CallerLemmas.{AreKnown, IsKnown}
use Rattle.batch_job.specs.NotedIds.{list_of, names_in}
use Rattle.batch_job.specs.PendingPuts.{Adds, AddsSome, AreResolved, AreTimes, IsLast, MayPut, PutsAll, points_in}
use Rattle.batch_job.specs.SeriesValues.{Series, is_same_series, series_of_point, values_in}
use Rattle.batch_job.specs.LastValues.{last_at}
use Rattle.batch_job.specs.Storing.{IsAlone, IsStored, WasPut}
use Rattle.batch_job.proofs.SettleLemmas.{take_next}
use Rattle.batch_job.proofs.GatherLemmas.{known_series, none_not_some, same_series}
use Rattle.point_lines.proofs.CallerLemmas.{notes_all}
use Rattle.batch_job.proofs.LastPoints.{last_points_are}
use Rattle.batch_job.proofs.Lower.{here, map_in, in_map, not_in, split}
use Rattle.batch_job.proofs.Puts.{adds_alike, adds_joined, adds_none, adds_then, one_more, still_resolved}
use Rattle.batch_job.proofs.SeriesLemmas.{lookup_contains, named_series, times_of_values, values_are}
use Rattle.batch_job.proofs.ValueLemmas.{contains_value, value_contains}

abbrev Entry : Type 0
Entry = Series × List (ℕ × ℤ)

-- ---- one series
module _ (metric : List ℕ) (tags : List Pair) (fine : Bool) (dots values : List (ℕ × ℤ)) (rising : IsRising dots) (settled : (time : ℕ) → value_at dots time ≡ last_at values time) where
  abbrev named : Series
  named = ((metric, tags), fine)

  abbrev point_at : ℕ × ℤ → DataPoint
  point_at d = record { metric = metric; tags = tags; time = d.0; fine = fine; value = d.1 }

  last_of_one : (p : DataPoint) → Contains (points_in metric tags fine dots) p ↔ IsLast ((named, values) ∷ []) p
  last_of_one p = (
    λ has.
        let d = map_in point_at dots p has in
        subst (IsLast ((named, values) ∷ [])) d.2
        (record { entry = (named, values); among = here (named, values) []; series_is = refl; last = sym (settled (d.0).0) ∙ contains_value dots (d.0).0 (d.0).1 rising d.1 }),
    λ l. ⊎_elim
        (λ (same : (named, values) ≡ l.entry).
        let series : named ≡ series_of_point p = ap (λ (e : Entry). e.0) same ∙ l.series_is in
        let last : last_at values p.time ≡ Some p.value = ap (λ (e : Entry). last_at e.1 p.time) same ∙ l.last in
        let has : Contains dots (p.time, p.value) = value_contains dots p.time p.value (settled p.time ∙ last) in
        let is : point_at (p.time, p.value) ≡ p = λ i. record { metric = (series i).0.0; tags = (series i).0.1; time = p.time; fine = (series i).1; value = p.value } in
        subst (Contains (points_in metric tags fine dots)) is (in_map point_at dots (p.time, p.value) has))
        (λ (no : Contains [] l.entry). absurd (not_in l.entry no))
        (split (named, values) l.entry [] l.among),
  )

  pub series_put : (a b : Seen) → Adds a (points_in metric tags fine dots) b → PutsAll a ((named, values) ∷ []) b
  series_put a b adds = adds_alike (Contains (points_in metric tags fine dots)) (IsLast ((named, values) ∷ [])) a b adds last_of_one

-- ---- one point of a series
pub first_dot : (metric : List ℕ) (tags : List Pair) (fine : Bool) (s : Seen) (items : List (ℕ × ℤ)) → IsAlone s → Adds s (points_in metric tags fine (take 0 items)) s
first_dot metric tags fine s items by = adds_none s by

pub next_dot : (metric : List ℕ) (tags : List Pair) (fine : Bool) (p : DataPoint) (items : List (ℕ × ℤ)) (i : ℕ) (a b c : Seen) → i < length items → p.metric ≡ metric → p.tags ≡ tags → p.fine ≡ fine
    → p.time ≡ (get_or items i (0, pos 0)).0 → p.value ≡ (get_or items i (0, pos 0)).1
    → Adds a (points_in metric tags fine (take i items)) b → Adds b (p ∷ []) c → Adds a (points_in metric tags fine (take (i + 1) items)) c
next_dot metric tags fine p items i a b c within named tagged formed time_is value_is before one =
    let d : ℕ × ℤ = get_or items i (0, pos 0) in
    let is : p ≡ record { metric = metric; tags = tags; time = d.0; fine = fine; value = d.1 } = λ k. record { metric = named k; tags = tagged k; time = time_is k; fine = formed k; value = value_is k } in
    let now : Adds b (points_in metric tags fine (d ∷ [])) c = subst (λ (q : DataPoint). Adds b (q ∷ []) c) is one in
    subst (λ (ds : List (ℕ × ℤ)). Adds a (points_in metric tags fine ds) c) (sym (take_next items i (0, pos 0) within)) (one_more metric tags fine a b c (take i items) d before now)

take_all : (xs : List (ℕ × ℤ)) (n : ℕ) → length xs ≤ n → take n xs ≡ xs
take_all [] zero le = refl
take_all [] (suc n) le = refl
take_all (x ∷ xs) zero le = absurd (omega (arith, le))
take_all (x ∷ xs) (suc n) le = ap (λ ys. x ∷ ys) (take_all xs n (omega (arith, le)))

pub all_dots : (metric : List ℕ) (tags : List Pair) (fine : Bool) (items dots : List (ℕ × ℤ)) (i : ℕ) (a b : Seen) → length items ≤ i → items ≡ dots → Adds a (points_in metric tags fine (take i items)) b → Adds a (points_in metric tags fine dots) b
all_dots metric tags fine items dots i a b le same adds = subst (λ (ds : List (ℕ × ℤ)). Adds a (points_in metric tags fine ds) b) (take_all items i le ∙ same) adds

-- the first point of a series, and then the others
pub first_and_others : (metric : List ℕ) (tags : List Pair) (fine : Bool) (first : ℕ × ℤ) (others dots : List (ℕ × ℤ)) (p : DataPoint) (a b c : Seen) → dots ≡ first ∷ others → p ≡ record { metric = metric; tags = tags; time = first.0; fine = fine; value = first.1 }
    → Adds a (p ∷ []) b → Adds b (points_in metric tags fine others) c → Adds a (points_in metric tags fine dots) c
first_and_others metric tags fine first others dots p a b c cut is one rest =
    subst (λ (ds : List (ℕ × ℤ)). Adds a (points_in metric tags fine ds) c) (sym cut) (subst (λ (q : DataPoint). Adds a (q ∷ points_in metric tags fine others) c) is (adds_joined a b c p (points_in metric tags fine others) one rest))

-- what follows where a call went well
pub where_ok : {E P Q : Type 0} (r : Result (Unit {0}) E) → (P → Q) → OnOk r P → OnOk r Q
where_ok (Ok done) f p = f p
where_ok (Err e) f p = tt

-- no points of a series
pub no_dots : (metric : List ℕ) (tags : List Pair) (fine : Bool) (dots : List (ℕ × ℤ)) (s : Seen) → length dots ≡ 0 → IsAlone s → Adds s (points_in metric tags fine dots) s
no_dots metric tags fine [] s none by = adds_none s by
no_dots metric tags fine (d ∷ dots) s none by = absurd (omega (arith, none))

-- points of one series have the same names
pub names_alike : (p q : DataPoint) (P : DataPoint → Type 0) (a b : Seen) → q.metric ≡ p.metric → q.tags ≡ p.tags → AreResolved a (names_of p) → AddsSome a P b → AreResolved b (names_of q)
names_alike p q P a b metric tags resolved adds =
    still_resolved P a b (names_of q) adds
    (subst (λ (x : List Pair). AreResolved a ((Metric, q.metric) ∷ tag_names x)) (sym tags) (subst (λ (x : List ℕ). AreResolved a ((Metric, x) ∷ tag_names p.tags)) (sym metric) resolved))

-- the names of the point are those of the series
pub point_resolved : (metric : List ℕ) (tags : List Pair) (fine : Bool) (p : DataPoint) (values : List (ℕ × ℤ)) (P : DataPoint → Type 0) (a b : Seen) → p.metric ≡ metric → p.tags ≡ tags → MayPut a (((metric, tags), fine), values) → AddsSome a P b → AreResolved b (names_of p)
point_resolved metric tags fine p values P a b named tagged may adds =
    still_resolved P a b (names_of p) adds
    (subst (λ (x : List Pair). AreResolved a ((Metric, p.metric) ∷ tag_names x)) (sym tagged) (subst (λ (x : List ℕ). AreResolved a ((Metric, x) ∷ tag_names tags)) (sym named) may.resolved))

-- ---- series after series
last_cut : (done : List Entry) (e : Entry) (r : DataPoint) → IsLast (done ++ e ∷ []) r ↔ (IsLast done r ⊎ IsLast (e ∷ []) r)
last_cut done e r = (
  λ l. ⊎_elim
      (λ (before : Contains done l.entry). inl (record { entry = l.entry; among = before; series_is = l.series_is; last = l.last }))
      (λ (now : Contains (e ∷ []) l.entry). inr (record { entry = l.entry; among = now; series_is = l.series_is; last = l.last }))
      (Contains-append_cases done (e ∷ []) l.entry l.among),
  λ either. ⊎_elim
      (λ (l : IsLast done r). record { entry = l.entry; among = Contains-append_left done (e ∷ []) l.entry l.among; series_is = l.series_is; last = l.last })
      (λ (l : IsLast (e ∷ []) r). record { entry = l.entry; among = Contains-append_right done (e ∷ []) l.entry l.among; series_is = l.series_is; last = l.last })
      either,
)

-- some of the entries were put, and the rest is to come
pub record ArePut (a : Seen) (entries rest : List Entry) (b : Seen) : Type 0 where
  pub done : List Entry
  pub all : done ++ rest ≡ entries
  pub puts : PutsAll a done b

pub none_put : (a : Seen) (entries rest : List Entry) → rest ≡ entries → IsAlone a → ArePut a entries rest a
none_put a entries rest same by = record {
  done = [];
  all = same;
  puts = adds_alike (Contains []) (IsLast []) a a (adds_none a by) (λ r. (λ no. absurd (not_in r no), λ l. absurd (not_in l.entry l.among)));
}

pub all_put : (a b : Seen) (entries rest : List Entry) → rest ≡ [] → ArePut a entries rest b → PutsAll a entries b
all_put a b entries rest none put =
    subst (λ (es : List Entry). PutsAll a es b) (sym (append-nil put.done) ∙ ap (λ (r : List Entry). put.done ++ r) (sym none) ∙ put.all) put.puts

module _ (a b : Seen) (entries rest more : List Entry) (e : Entry) (are : rest ≡ e ∷ more) (may : All (MayPut a) entries) (put : ArePut a entries rest b) where
  next : put.done ++ e ∷ more ≡ entries
  next = ap (λ (r : List Entry). put.done ++ r) (sym are) ∙ put.all

  pub may_next : MayPut b e
  may_next =
      let m = All-contains (MayPut a) entries e may (subst (λ (es : List Entry). Contains es e) next (Contains-append_right put.done (e ∷ more) e (here e more))) in
      record { resolved = still_resolved (IsLast put.done) a b (names_in e.0.0.0 e.0.0.1) put.puts m.resolved; times = m.times }

  pub put_next : (c : Seen) → PutsAll b (e ∷ []) c → ArePut a entries more c
  put_next c one = record {
    done = put.done ++ e ∷ [];
    all = append_assoc put.done (e ∷ []) more ∙ next;
    puts = adds_then (IsLast put.done) (IsLast (e ∷ [])) (IsLast (put.done ++ e ∷ [])) a b c put.puts one (last_cut put.done e);
  }

-- ---- the series that were gathered
module _ (points : List DataPoint) (g : SoFar) (h : Gathers points g) (found : All (λ e. values_in g.gathered e.0 ≡ Some e.1) g.gathered) where
  known_all : AreKnown h.names (flat_map names_of points)
  known_all = (notes_all three _ (flat_map names_of points) h.names h.noted).known

  some_is : {A : Type 0} (o : Option A) → is_some o ≡ true → (x : A) × (o ≡ Some x)
  some_is None e = absurd (true≢false (sym e))
  some_is (Some x) e = (x, refl)

  -- names that are known have ids
  have_ids : (ns : List (Kind × List ℕ)) → AreKnown h.names ns → ((n : Kind × List ℕ) → Contains ns n → IsName n.1) → AreResolved g.seen ns
  have_ids ns known named = record {
    by = h.naming.by;
    resolved = λ x lawful fits n has.
        let one = All-contains (IsKnown h.names) ns n (All-from_recursion (IsKnown h.names) ns known) has in
        let id = some_is (id_in (list_of h.names n.0) n.1) one in
        (id.0, (h.naming.numbered x lawful fits).ids n.0 n.1 (named n has) ∙ id.1);
  }

  -- they may be put
  pub may_put : All (MayPut g.seen) g.gathered
  may_put =
      All-weaker (λ e. values_in g.gathered e.0 ≡ Some e.1) (MayPut g.seen)
      (λ e is.
      let there : unless_empty (values_of points e.0) ≡ Some e.1 = sym (h.series e.0) ∙ is in
      record {
        resolved = have_ids (names_in e.0.0.0 e.0.0.1) (known_series h.names points e.0 e.1 known_all there) (named_series points e.0 e.1 h.are_points there);
        times = subst (AreTimes e.0.1) (sym (values_are points e.0 e.1 there)) (times_of_values points e.0 h.are_points);
      })
      g.gathered found

  -- the last values of the series are the last points
  last_is : (r : DataPoint) → IsLast g.gathered r ↔ (last_at (values_of points (series_of_point r)) r.time ≡ Some r.value)
  last_is r = (to, λ is. from (values_of points (series_of_point r)) refl is)
    where
      to : IsLast g.gathered r → last_at (values_of points (series_of_point r)) r.time ≡ Some r.value
      to l =
          let is = All-contains (λ e. values_in g.gathered e.0 ≡ Some e.1) g.gathered l.entry found l.among in
          let values = values_are points l.entry.0 l.entry.1 (sym (h.series l.entry.0) ∙ is) in
          ap (λ (s : Series). last_at (values_of points s) r.time) (sym l.series_is) ∙ ap (λ xs. last_at xs r.time) (sym values) ∙ l.last

      from : (values : List (ℕ × ℤ)) → values_of points (series_of_point r) ≡ values → last_at (values_of points (series_of_point r)) r.time ≡ Some r.value → IsLast g.gathered r
      from [] told is = absurd (none_not_some (sym (ap (λ xs. last_at xs r.time) told) ∙ is))
      from (x ∷ xs) told is =
          let s : Series = series_of_point r in
          let at = lookup_contains (is_same_series s) g.gathered (x ∷ xs) (h.series s ∙ ap unless_empty told) in
          record { entry = (at.key, x ∷ xs); among = at.among; series_is = sym (same_series s at.key at.passes); last = sym (ap (λ ys. last_at ys r.time) told) ∙ is }

  -- all points are stored
  pub stored : (s : Seen) → PutsAll g.seen g.gathered s → IsStored points s
  stored s puts = record {
    are_points = h.are_points;
    names = h.names;
    noted = h.noted;
    by = puts.by;
    only_puts = λ x lawful fits. puts.only_puts x lawful fits (h.naming.only_puts x lawful (puts.fits x fits));
    ids = λ x lawful fits kind name is. puts.ids x lawful fits kind name ∙ (h.naming.numbered x lawful (puts.fits x fits)).ids kind name is;
    puts = λ x lawful fits r. (
      λ put. (last_points_are points r).1 ((last_is r).0 (⊎_elim
          (λ (before : WasPut (first g.seen.length x) r). absurd (h.naming.unput x lawful (puts.fits x fits) r before))
          (λ (l : IsLast g.gathered r). l)
          ((puts.puts x lawful fits r).0 put))),
      λ has. (puts.puts x lawful fits r).1 (inr ((last_is r).1 ((last_points_are points r).0 has))),
    );
  }
