-- The points of the series of a group, downsampled one after the other.
use Rattle.std.proofs.Common.{◌≡◌, inl, inr, ◌⊎◌, ℕ, ℤ, ◌+◌, ◌-◌, ◌*◌, ◌<◌, ◌≤◌, ◌^◌, ◌%◌, ◌/◌, Bool, true, false, List, [], ◌∷◌, ◌++◌, length, map, refl, sym, ap, subst, ◌∙◌, arith, append_assoc, append-nil, zero, suc}
use Rattle.std.specs.Prelude.{All, IfSome, Option, Some, None, Result, Ok, Err, filter, min, not, nat_eq}
use Rattle.std.specs.List.{flat_map, find}
use Rattle.std.specs.FinMap.{from_entries, keys}
use Rattle.std.specs.Cmp.{nat_cmp_total, ranked, tied_itself}
use Rattle.std.specs.Ordering.{nat_cmp, is_eq, eq_by_cmp}
use Rattle.std.specs.declared.cmp.Ordering.{Ordering}
use Rattle.std.specs.declared.cmp.Ordering.TheVariants.{Less, Equal, Greater}
use Rattle.std.proofs.lemmas.List.Elements.{All-append, All-head, All-tail, All-cons, All-nil, All-contains, All-filter, All-map}
use Rattle.tsd_base.specs.declared.times.TheConstants.{LAST_TIME}
use Rattle.tsd_base.specs.declared.kinds.Aggregator.{Aggregator}
use Rattle.tsd_base.specs.declared.kinds.Fill.{Fill}
use Rattle.tsd_base.specs.declared.kinds.Fill.TheVariants.{NoFill, Zero}
use Rattle.tsd_base.specs.declared.kinds.Function.{Function}
use Rattle.tsd_base.specs.declared.kinds.Down.{Down}
use Rattle.query_text.specs.declared.queries.Query.{Query}
use Rattle.query_text.specs.declared.queries.Sub.{Sub}
use Rattle.downsample.specs.Buckets.{all_buckets, bucket_of, buckets_of, value_of, values_in}
use Rattle.lerp_aggregate.specs.FilledGroups.{times_from}
use Rattle.downsample.specs.declared.downsampling.DownFault.{DownFault}
use Rattle.downsample.specs.declared.downsampling.DownFault.TheVariants as down
use Rattle.downsample.specs.Downsampling.{GivesDown, buckets_for, downsampled, in_order, point_before, valued}
use Rattle.lerp_aggregate.specs.Aggregation.{aggregated, combined, overflows, points_of, points_unless, times_of, values_at}
use Rattle.query_text.specs.Downs.{IsInterval}
use Rattle.series_groups.specs.QueryAnswers.{all_or_least, down_by, down_to, first_and, function_of}
use Rattle.query_text.specs.Subs.{CanDown}
use Rattle.series_groups.specs.SeriesGroups.{IsDown, Keeps, earliest}
use Rattle.series_groups.specs.NamedSeries.{AreEarly}
use Rattle.series_groups.proofs.AnyOf.{in_any, any_in}
use Rattle.series_groups.proofs.Keys.{any_key_made}
use Rattle.list_lemmas.proofs.ListMembers.{in_map, map_in}
use Rattle.list_lemmas.proofs.ListParts.{all_of}

abbrev Dots : Type 0
Dots = List (ℕ × ℤ)

-- ---- what was made, and what the rest makes

abbrev pub joined : List Dots → Option ℕ → Result (List Dots) ℕ → Result (List Dots) ℕ
joined lists None (Ok more) = Ok (lists ++ more)
joined lists None (Err time) = Err time
joined lists (Some least) (Ok more) = Err least
joined lists (Some least) (Err time) = Err (min least time)

pub joined_none : (rest : Result (List Dots) ℕ) → joined [] None rest ≡ rest
joined_none (Ok more) = refl
joined_none (Err time) = refl

pub joined_dots : (lists more : List Dots) (least : Option ℕ) (one : Result Dots ℕ) (dots : Dots) (rest : List (Result Dots ℕ)) → one ≡ Ok dots → more ≡ lists ++ dots ∷ []
    → joined lists least (all_or_least (one ∷ rest)) ≡ joined more least (all_or_least rest)
joined_dots lists more least one dots rest is now =
    ap (λ (r : Result Dots ℕ). joined lists least (all_or_least (r ∷ rest))) is ∙ at least (all_or_least rest) ∙ ap (λ l. joined l least (all_or_least rest)) (sym now)
  where
    at : (o : Option ℕ) (r : Result (List Dots) ℕ) → joined lists o (first_and (Ok dots) r) ≡ joined (lists ++ dots ∷ []) o r
    at None (Ok more) = ap Ok (sym (append_assoc lists (dots ∷ []) more))
    at None (Err time) = refl
    at (Some l) (Ok more) = refl
    at (Some l) (Err time) = refl

pub joined_time : (lists : List Dots) (least now : Option ℕ) (one : Result Dots ℕ) (time : ℕ) (rest : List (Result Dots ℕ)) → one ≡ Err time → now ≡ Some (earliest least time)
    → joined lists least (all_or_least (one ∷ rest)) ≡ joined lists now (all_or_least rest)
joined_time lists least now one time rest is is_now =
    ap (λ (r : Result Dots ℕ). joined lists least (all_or_least (r ∷ rest))) is ∙ at least (all_or_least rest) ∙ ap (λ o. joined lists o (all_or_least rest)) (sym is_now)
  where
    least_of : (a b c : ℕ) → min a (min b c) ≡ min (min a b) c
    least_of a b c = omega arith

    at : (o : Option ℕ) (r : Result (List Dots) ℕ) → joined lists o (first_and (Err time) r) ≡ joined lists (Some (earliest o time)) r
    at None (Ok more) = refl
    at None (Err other) = refl
    at (Some l) (Ok more) = refl
    at (Some l) (Err other) = ap Err (least_of l time other)

-- one more was kept
pub joined_more : (lists more : List Dots) (least now : Option ℕ) (one : Result Dots DownFault) (wanted : Result Dots ℕ) (rest : List (Result Dots ℕ)) → GivesDown one wanted → Keeps lists least one more now
    → joined lists least (all_or_least (wanted ∷ rest)) ≡ joined more now (all_or_least rest)
joined_more lists more least now (Ok dots) wanted rest is (more_is, now_is) = joined_dots lists more least wanted dots rest is more_is ∙ ap (λ o. joined more o (all_or_least rest)) (sym now_is)
joined_more lists more least now (Err (down.Overflow time)) wanted rest is (more_is, now_is) = joined_time lists least now wanted time rest is now_is ∙ ap (λ l. joined l now (all_or_least rest)) (sym more_is)
joined_more lists more least now (Err down.OutOfMemory) wanted rest is k = absurd k

pub joined_all : (lists : List Dots) (wanted : Result (List Dots) ℕ) → joined lists None (all_or_least []) ≡ wanted → wanted ≡ Ok lists
joined_all lists wanted e = sym e ∙ ap Ok (append-nil lists)

pub joined_least : (lists : List Dots) (least : ℕ) (wanted : Result (List Dots) ℕ) → joined lists (Some least) (all_or_least []) ≡ wanted → wanted ≡ Err least
joined_least lists least wanted e = sym e

-- ---- what holds of each list, where each has points

same_Ok : {X E : Type 0} (x y : X) → ◌≡◌ {A = Result X E} (Ok x) (Ok y) → x ≡ y
same_Ok x y e = cc

not_Ok : {X E : Type 0} (x : X) (e : E) → ◌≡◌ {A = Result X E} (Err e) (Ok x) → ⊥
not_Ok x e h = cc

module _ (P : Dots → Type 0) where
  -- the first has points, and the rest
  cut : (one : Result Dots ℕ) (rest : List (Result Dots ℕ)) (lists : List Dots) → all_or_least (one ∷ rest) ≡ Ok lists → (dots : Dots) × (more : List Dots) × (one ≡ Ok dots) × (all_or_least rest ≡ Ok more) × (lists ≡ dots ∷ more)
  cut one rest lists e = at one (all_or_least rest) refl e
    where
      at : (o : Result Dots ℕ) (r : Result (List Dots) ℕ) → all_or_least rest ≡ r
          → first_and o r ≡ Ok lists
          → (dots : Dots) × (more : List Dots) × (◌≡◌ {A = Result Dots ℕ} o (Ok dots)) × (all_or_least rest ≡ Ok more) × (lists ≡ dots ∷ more)
      at (Ok dots) (Ok more) is h = (dots, more, refl, is, sym (same_Ok (dots ∷ more) lists h))
      at (Ok dots) (Err time) is h = absurd (not_Ok lists time h)
      at (Err time) (Ok more) is h = absurd (not_Ok lists time h)
      at (Err time) (Err other) is h = absurd (not_Ok lists (min time other) h)

  pub all_are : (f : Dots → Result Dots ℕ) (Q : Dots → Type 0) → ((d e : Dots) → Q d → f d ≡ Ok e → P e) → (from : List Dots) (lists : List Dots) → All Q from → all_or_least (map f from) ≡ Ok lists → All P lists
  all_are f Q each [] lists all e = subst (All P) (same_Ok [] lists e) (All-nil P)
  all_are f Q each (d ∷ from) lists all e =
      let c = cut (f d) (map f from) lists e in
      subst (All P) (sym c.4) (All-cons P c.0 c.1 (each d c.0 (All-head Q d from all) c.2) (all_are f Q each from c.1 (All-tail Q d from all) c.3))

pub as_many : (f : Dots → Result Dots ℕ) (from lists : List Dots) → all_or_least (map f from) ≡ Ok lists → length lists ≡ length from
as_many f [] lists e = ap length (sym (same_Ok [] lists e))
as_many f (d ∷ from) lists e = let c = cut (λ x. Unit {0}) (f d) (map f from) lists e in let more = as_many f from c.1 c.3 in let now = ap length c.4 in omega (arith, more, now)

-- ---- the times of a downsampled series

module _ (how : Function) (interval : ℕ) (points : Dots) (P : ℕ → Type 0) where
  valued_are : (buckets : List ℕ) (out : Dots) → All P buckets → valued how interval points buckets ≡ Ok out → All (λ (d : ℕ × ℤ). P d.0) out
  valued_are [] out all e = subst (All (λ (d : ℕ × ℤ). P d.0)) (same_Ok [] out e) (All-nil (λ (d : ℕ × ℤ). P d.0))
  valued_are (b ∷ buckets) out all e = at (value_of how (values_in interval points b)) (valued how interval points buckets) refl e (λ rest is. valued_are buckets rest (All-tail P b buckets all) is)
    where
      at : (v : Option ℤ) (r : Result Dots ℕ) → valued how interval points buckets ≡ r → point_before b v r ≡ Ok out → ((rest : Dots) → valued how interval points buckets ≡ Ok rest → All (λ (d : ℕ × ℤ). P d.0) rest) → All (λ (d : ℕ × ℤ). P d.0) out
      at None r is h go = absurd (not_Ok out b h)
      at (Some v) (Ok rest) is h go = subst (All (λ (d : ℕ × ℤ). P d.0)) (same_Ok ((b, v) ∷ rest) out h) (All-cons (λ (d : ℕ × ℤ). P d.0) (b, v) rest (All-head P b buckets all) (go rest is))
      at (Some v) (Err later) is h go = absurd (not_Ok out later h)

-- a bucket begins at a multiple of the interval, early enough
pub record IsBucket (interval time : ℕ) : Type 0 where
  pub multiple : ℕ
  pub is : time ≡ interval * multiple
  pub early : time < 2 ^ 43

bucket_is : (interval time : ℕ) → 1 ≤ interval → time < 2 ^ 43 → IsBucket interval (bucket_of interval time)
bucket_is interval time some early =
    let cut : interval * (time / interval) + time % interval ≡ time = omega (arith, some) in
    record { multiple = time / interval; is = omega (arith, cut); early = omega (arith, early) }

buckets_are : (interval : ℕ) → 1 ≤ interval → (points : Dots) → AreEarly points → All (IsBucket interval) (buckets_of interval points)
buckets_are interval some [] early = All-nil (IsBucket interval)
buckets_are interval some (p ∷ points) early =
    All-cons (IsBucket interval) (bucket_of interval p.0) (filter (λ bucket. not (nat_eq bucket (bucket_of interval p.0))) (buckets_of interval points))
    (bucket_is interval p.0 some (All-head (λ (d : ℕ × ℤ). d.0 < 2 ^ 43) p points early))
    (All-filter (λ bucket. not (nat_eq bucket (bucket_of interval p.0))) (IsBucket interval) (buckets_of interval points) (buckets_are interval some points (All-tail (λ (d : ℕ × ℤ). d.0 < 2 ^ 43) p points early)))

buckets_up_to : (interval m n last : ℕ) → last < 2 ^ 43 → interval * (m + n) ≤ last + interval → (bucket : ℕ) → bucket ≡ interval * m → All (IsBucket interval) (times_from interval bucket n)
buckets_up_to interval m zero last low le bucket is = All-nil (IsBucket interval)
buckets_up_to interval m (suc n) last low le bucket is =
    All-cons (IsBucket interval) bucket (times_from interval (bucket + interval) n)
    (record { multiple = m; is = is; early = omega (arith, is, le, low) })
    (buckets_up_to interval (m + 1) n last low (omega (arith, le)) (bucket + interval) (omega (arith, is)))

pub all_buckets_are : (interval start end : ℕ) → 1 ≤ interval → start ≤ end → end < 2 ^ 43 → All (IsBucket interval) (all_buckets interval start end)
all_buckets_are interval start end some order low =
    buckets_up_to interval (start / interval) (end / interval - start / interval + 1) end low (at (below_or (start / interval) (end / interval))) (bucket_of interval start) (omega (arith, cut start))
  where
    cut : (time : ℕ) → interval * (time / interval) + time % interval ≡ time
    cut time = omega (arith, some)

    below_or : (m n : ℕ) → (m ≤ n) ⊎ (n < m)
    below_or m n = grind arith

    at : (start / interval ≤ end / interval) ⊎ (end / interval < start / interval) → interval * (start / interval + (end / interval - start / interval + 1)) ≤ end + interval
    at (inl le) =
        let same : start / interval + (end / interval - start / interval + 1) ≡ end / interval + 1 = omega (arith, le) in
        let all = ap (λ x. interval * x) same in
        let last = cut end in
        omega (arith, all, last)
    at (inr lt) =
        let same : start / interval + (end / interval - start / interval + 1) ≡ start / interval + 1 = omega (arith, lt) in
        let all = ap (λ x. interval * x) same in
        let last = cut start in
        omega (arith, all, last, order)

-- ---- the keys of a map of entries, and the entries

equal_is : (a b : ℕ) (r : Ordering) → r ≡ nat_cmp a b → is_eq r ≡ true → a ≡ b
equal_is a b Less e t = cc
equal_is a b Equal e t = ranked a b Equal e
equal_is a b Greater e t = cc

-- what holds of the times of readings holds of the times of the map of them
keys_are : (P : ℕ → Type 0) (es : Dots) → All (λ (d : ℕ × ℤ). P d.0) es → All P (keys (from_entries {R = nat_cmp} es))
keys_are P es all =
    let times = keys (from_entries {R = nat_cmp} es) in
    all_of P times (λ t c.
    let found = in_any (eq_by_cmp nat_cmp t) t times c (ap is_eq (tied_itself nat_cmp_total t)) in
    let w = any_in (eq_by_cmp nat_cmp t) (map (λ (d : ℕ × ℤ). d.0) es) (sym (any_key_made nat_cmp_total es t) ∙ found) in
    let d = map_in (λ (d : ℕ × ℤ). d.0) es w.0 w.1 in
    subst P (d.2 ∙ sym (equal_is t w.0 (nat_cmp t w.0) refl w.2)) (All-contains (λ (d : ℕ × ℤ). P d.0) es d.0 all d.1))

pub ordered_are : (P : ℕ → Type 0) (es : Dots) → All (λ (d : ℕ × ℤ). P d.0) es → All (λ (d : ℕ × ℤ). P d.0) (in_order es)
ordered_are P es all =
    all_of (λ (d : ℕ × ℤ). P d.0) (in_order es)
    (λ d c. All-contains P (keys (from_entries {R = nat_cmp} es)) d.0 (keys_are P es all) (in_map (λ (e : ℕ × ℤ). e.0) (in_order es) d c))

-- ---- a series that was downsampled

down_buckets : (how : Down) (start end : ℕ) (dots out : Dots) → 1 ≤ how.interval → start ≤ end → end < 2 ^ 43 → AreEarly dots → downsampled how start end dots ≡ Ok out → All (λ (d : ℕ × ℤ). IsBucket how.interval d.0) out
down_buckets how start end dots out some order low early e =
    valued_are how.function how.interval (in_order dots) (IsBucket how.interval) (buckets_for how.fill how.interval start end (in_order dots)) out (at how.fill) e
  where
    at : (fill : Fill) → All (IsBucket how.interval) (buckets_for fill how.interval start end (in_order dots))
    at NoFill = buckets_are how.interval some (in_order dots) (ordered_are (λ t. t < 2 ^ 43) dots early)
    at Zero = all_buckets_are how.interval start end some order low

pub down_early : (how : Option Down) (start end : ℕ) (dots out : Dots) → IfSome how (IsDown start end) → start ≤ end → end ≤ LAST_TIME → AreEarly dots → down_to how start end dots ≡ Ok out → AreEarly out
down_early None start end dots out can order most early e = subst AreEarly (same_Ok dots out e) early
down_early (Some how) start end dots out can order most early e =
    all_of (λ (d : ℕ × ℤ). d.0 < 2 ^ 43) out (λ d c. (All-contains (λ (x : ℕ × ℤ). IsBucket how.interval x.0) out d (down_buckets how start end dots out can.some order (omega (arith, most)) early e) c).early)

-- an interval of whole seconds
abbrev pub HasWhole : Option Down → Type 0
HasWhole how = (down : Down) × (how ≡ Some down) × (1 ≤ down.interval) × (down.interval % 1000 ≡ 0)

whole_multiple : (interval m time : ℕ) → interval % 1000 ≡ 0 → time ≡ interval * m → time % 1000 ≡ 0
whole_multiple interval m time whole is =
    let seconds : interval ≡ 1000 * (interval / 1000) = omega (arith, whole) in
    let product = ap (λ x. x * m) seconds in
    omega (arith, is, product)

pub down_whole : (how : Option Down) (start end : ℕ) (dots out : Dots) → HasWhole how → start ≤ end → end ≤ LAST_TIME → AreEarly dots → down_to how start end dots ≡ Ok out → All (λ (d : ℕ × ℤ). d.0 % 1000 ≡ 0) out
down_whole how start end dots out (down, is, some, whole) order most early e =
    all_of (λ (d : ℕ × ℤ). d.0 % 1000 ≡ 0) out (λ d c.
    let b = All-contains (λ (x : ℕ × ℤ). IsBucket down.interval x.0) out d (down_buckets down start end dots out some order (omega (arith, most)) early (sym (ap (λ o. down_to o start end dots) is) ∙ e)) c in
    whole_multiple down.interval b.multiple d.0 whole b.is)

-- ---- the points of a group

all_joined : (P : ℕ → Type 0) (lists : List Dots) → All (λ (l : Dots). All (λ (d : ℕ × ℤ). P d.0) l) lists → All (λ (d : ℕ × ℤ). P d.0) (flat_map (λ (l : Dots). l) lists)
all_joined P [] all = All-nil (λ (d : ℕ × ℤ). P d.0)
all_joined P (l ∷ lists) all =
    All-append (λ (d : ℕ × ℤ). P d.0) l (flat_map (λ (l : Dots). l) lists) (All-head (λ (l : Dots). All (λ (d : ℕ × ℤ). P d.0) l) l lists all)
    (all_joined P lists (All-tail (λ (l : Dots). All (λ (d : ℕ × ℤ). P d.0) l) l lists all))

-- what holds of the times of each series holds of those of the group
pub group_times : (P : ℕ → Type 0) (how : Aggregator) (lists : List Dots) (out : Dots) → All (λ (l : Dots). All (λ (d : ℕ × ℤ). P d.0) l) lists → aggregated how lists ≡ Ok out → All (λ (d : ℕ × ℤ). P d.0) out
group_times P how lists out all e =
    subst (All (λ (d : ℕ × ℤ). P d.0)) (at (find (λ (p : ℕ × ℤ). overflows how p.1) (points_of how lists)) e)
    (All-map (λ (d : ℕ × ℤ). P d.0) (λ (t : ℕ). (t, combined how (values_at how lists t))) (times_of lists) (keys_are P (flat_map (λ (l : Dots). l) lists) (all_joined P lists all)))
  where
    at : (o : Option (ℕ × ℤ)) → points_unless o (points_of how lists) ≡ Ok out → points_of how lists ≡ out
    at None h = same_Ok (points_of how lists) out h
    at (Some p) h = absurd (not_Ok out p.0 h)

-- ---- what the making of a group asks

-- the interval is whole where times are told in seconds
pub has_whole : (q : Query) (s : Sub) → q.ms ≡ false → CanDown q.ms s → HasWhole (down_by q.ms s.how s.down)
has_whole q s seconds can = subst (λ (ms : Bool). HasWhole (down_by ms s.how s.down)) (sym seconds) (at s.down (subst (λ (ms : Bool). IfSome s.down (λ d. IsInterval ms d.interval)) seconds can))
  where
    at : (down : Option Down) → IfSome down (λ d. IsInterval false d.interval) → HasWhole (down_by false s.how down)
    at None can = (record { interval = 1000; function = function_of s.how; fill = NoFill }, refl, omega arith, refl)
    at (Some down) can = (down, refl, can.some, can.whole refl)

module _ (how : Option Down) (start end : ℕ) (can : IfSome how (IsDown start end)) (order : start ≤ end) (most : end ≤ LAST_TIME) (from : List Dots) (early : All AreEarly from) (lists : List Dots) (are : all_or_least (map (down_to how start end) from) ≡ Ok lists) where
  pub lists_early : All AreEarly lists
  lists_early = all_are AreEarly (down_to how start end) AreEarly (λ d e first is. down_early how start end d e can order most first is) from lists early are

  pub group_whole : HasWhole how → (by : Aggregator) (out : Dots) → aggregated by lists ≡ Ok out → All (λ (d : ℕ × ℤ). d.0 % 1000 ≡ 0) out
  group_whole whole by out is =
      group_times (λ t. t % 1000 ≡ 0) by lists out (all_are (λ (l : Dots). All (λ (d : ℕ × ℤ). d.0 % 1000 ≡ 0) l) (down_to how start end) AreEarly (λ d e first made. down_whole how start end d e whole order most first made) from lists early are) is
