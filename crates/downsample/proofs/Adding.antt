-- One more point in a fold.
use Rattle.std.proofs.Common.{◌≡◌, ℕ, zero, suc, ◌+◌, ◌-◌, ◌<◌, ◌≤◌, ℤ, List, [], ◌∷◌, ◌++◌, length, get_or, refl, sym, ap, subst, ◌∙◌, arith, append_assoc}
use Rattle.std.specs.Prelude.{Option, Some, Result, All}
use Rattle.std.proofs.lemmas.List.{length-append, length-map, map_push}
use Rattle.std.proofs.lemmas.List.Elements.{All-append, All-push, All-nil, recursion_from_All}
use Rattle.tsd_base.specs.declared.kinds.Function.{Function}
use Rattle.tsd_base.specs.Dots.{IsRising, IsAboveAll}
use Rattle.lerp_aggregate.specs.Tally.{HasRoom}
use Rattle.downsample.specs.Buckets.{bucket_of}
use Rattle.downsample.specs.Downsampling.{GivesDown}
use Rattle.downsample.specs.declared.downsampling.DownFault.{DownFault}
use Rattle.downsample.specs.Folding.{in_buckets, values_of}
use Rattle.downsample.specs.BucketFolds.{Holds, Closed, Closes, IsOpen, IsLength, FoldsTo, Finishes}
use Rattle.downsample.specs.declared.open_bucket.OpenBucket.{OpenBucket}
use Rattle.downsample.proofs.Multiples.{Begins, bucket_begins, bucket_below, bucket_near, bucket_same, bucket_later, next_begins}
use Rattle.downsample.proofs.Folding.{closed}
use Rattle.downsample.proofs.Opening.{rising_tail}

-- rising times from one on and below another are so many at most
rising_room : (low time : ℕ) (p : ℕ × ℤ) (points : List (ℕ × ℤ)) → low ≤ p.0 → IsRising (p ∷ points) → IsAboveAll time (p ∷ points) → low + suc (length points) ≤ time
rising_room low time p [] from rising above = (let lt : p.0 < time = above.0 in omega (arith, from, lt))
rising_room low time p (q ∷ points) from rising above =
    let next : p.0 < q.0 = rising 0 1 p (omega arith) (omega arith) in
    let rest = rising_room (suc low) time q points (omega (arith, from, next)) (rising_tail p (q ∷ points) rising) above.1 in
    omega (arith, rest)

pub above_right : (time : ℕ) (xs ys : List (ℕ × ℤ)) → IsAboveAll time (xs ++ ys) → IsAboveAll time ys
above_right time [] ys above = above
above_right time (x ∷ xs) ys above = above_right time xs ys above.1

rising_right : (xs ys : List (ℕ × ℤ)) → IsRising (xs ++ ys) → IsRising ys
rising_right [] ys rising = rising
rising_right (x ∷ xs) ys rising = rising_right xs ys (rising_tail x (xs ++ ys) rising)

-- the points of a bucket are no more than it is long
few_in : (i b : ℕ) (run : List (ℕ × ℤ)) → 1 ≤ i → IsRising run → All (λ (p : ℕ × ℤ). bucket_of i p.0 ≡ b) run → length run ≤ i
few_in i b [] some rising inside = omega arith
few_in i b (p ∷ run) some rising inside =
    let is : bucket_of i p.0 ≡ b = inside zero p (omega arith) in
    let from : b ≤ p.0 = (let low = bucket_below i p.0 in omega (arith, is, low)) in
    let to : IsAboveAll (b + i) (p ∷ run) =
    recursion_from_All (λ (q : ℕ × ℤ). q.0 < b + i) (p ∷ run) (λ k d lt. let here : bucket_of i (get_or (p ∷ run) k d).0 ≡ b = inside k d lt in let near = bucket_near i (get_or (p ∷ run) k d).0 some in omega (arith, here, near)) in
    let all = rising_room b (b + i) p run from rising to in
    omega (arith, all)

-- the first point of a bucket, which is below the time
record Inside (i b time : ℕ) : Type 0 where
  at : ℕ
  is : bucket_of i at ≡ b
  below : at < time

inside_of : (i b time : ℕ) (run : List (ℕ × ℤ)) → 1 ≤ length run → All (λ (p : ℕ × ℤ). bucket_of i p.0 ≡ b) run → IsAboveAll time run → Inside i b time
inside_of i b time [] some all above = absurd (omega (arith, some))
inside_of i b time (p ∷ run) some all above = record { at = p.0; is = all zero p (omega arith); below = above.0 }

-- where there is an open bucket
pub opened : (f : Function) (i : ℕ) (dots : List (ℕ × ℤ)) (large : Option ℕ) (some : Option OpenBucket) (latest : OpenBucket) (points : List (ℕ × ℤ)) → some ≡ Some latest → FoldsTo f i dots large some points → IsOpen f i dots large latest points
opened f i dots large some latest points is folds = subst (λ (o : Option OpenBucket). FoldsTo f i dots large o points) is folds

-- there is room for the values of one more, and for theirs
pub room : (f : Function) (i : ℕ) (dots : List (ℕ × ℤ)) (large : Option ℕ) (latest : OpenBucket) (points : List (ℕ × ℤ)) → IsOpen f i dots large latest points → IsRising points → IsLength i → (n : ℕ) → n ≤ 1 → HasRoom latest.tally n
room f i dots large latest points o rising length_is n small = record {
  values = values_of o.run;
  counts = o.holds.counts;
  few = (
      let all = few_in i latest.bucket o.run length_is.0 (rising_right o.before o.run (subst IsRising o.cut.cut rising)) o.cut.in_bucket in
      let same : length (values_of o.run) ≡ length o.run = length-map o.run (λ p. p.1) in
      let most = length_is.1 in
      omega (arith, all, same, small, most)
      );
}

module _ (f : Function) (i : ℕ) (dots : List (ℕ × ℤ)) (large : Option ℕ) (latest : OpenBucket) (points : List (ℕ × ℤ)) (time : ℕ) (o : IsOpen f i dots large latest points) (above : IsAboveAll time points) where
  inside : Inside i latest.bucket time
  inside = inside_of i latest.bucket time o.run o.cut.some o.cut.in_bucket (above_right time o.before o.run (subst (IsAboveAll time) o.cut.cut above))

  pub not_before : latest.bucket ≤ time
  not_before = (let is = inside.is in let below = inside.below in let low = bucket_below i inside.at in omega (arith, is, below, low))

  begins : 1 ≤ i → Begins i latest.bucket
  begins some = subst (Begins i) inside.is (bucket_begins i inside.at some)

  -- a point of the open bucket
  pub stays : (v w : ℤ) (more : OpenBucket) → w ≡ v → 1 ≤ i → time - latest.bucket < i → more.bucket ≡ latest.bucket → ((values : List ℤ) → Holds latest values → Holds more (values ++ w ∷ [])) → IsOpen f i dots large more (points ++ (time, v) ∷ [])
  stays v w more fits some near same adds =
      let low = not_before in
      let here : bucket_of i time ≡ latest.bucket = bucket_same i latest.bucket time some (begins some) low (omega (arith, near, low)) in
      let longer : values_of o.run ++ v ∷ [] ≡ values_of (o.run ++ (time, v) ∷ []) = sym (map_push (λ (p : ℕ × ℤ). p.1) o.run (time, v)) in
      record {
        before = o.before;
        run = o.run ++ (time, v) ∷ [];
        cut = record {
          cut = ap (λ (ps : List (ℕ × ℤ)). ps ++ (time, v) ∷ []) o.cut.cut ∙ append_assoc o.before o.run ((time, v) ∷ []);
          some = (let s = o.cut.some in omega (arith, s, length-append o.run ((time, v) ∷ [])));
          early = subst (λ (b : ℕ). All (λ (p : ℕ × ℤ). bucket_of i p.0 < b) o.before) (sym same) o.cut.early;
          in_bucket = subst (λ (b : ℕ). All (λ (p : ℕ × ℤ). bucket_of i p.0 ≡ b) (o.run ++ (time, v) ∷ [])) (sym same) (All-push (λ (p : ℕ × ℤ). bucket_of i p.0 ≡ latest.bucket) o.run (time, v) o.cut.in_bucket here);
        };
        holds = subst (Holds more) longer (subst (λ (x : ℤ). Holds more (values_of o.run ++ x ∷ [])) fits (adds (values_of o.run) o.holds));
        closed = o.closed;
        above = subst (λ (b : ℕ). IsAboveAll b dots) (sym same) o.above;
        rising = o.rising;
      }

  -- a point of a later bucket
  pub opens : (front own more : List (ℕ × ℤ)) (v w : ℤ) (next : OpenBucket) (now : Option ℕ) → dots ≡ front ++ own → w ≡ v → 1 ≤ i → i ≤ time - latest.bucket → next.bucket ≡ bucket_of i time → Holds next (w ∷ []) → Closes f latest own large more now → IsOpen f i (front ++ more) now next (points ++ (time, v) ∷ [])
  opens front own more v w next now apart fits some far is holds c =
      let low = not_before in
      let later : latest.bucket + i ≤ bucket_of i time = bucket_later i (latest.bucket + i) time some (next_begins i latest.bucket some (begins some)) (omega (arith, far, low)) in
      let up : latest.bucket < next.bucket = omega (arith, later, some, is) in
      let below : IsAboveAll latest.bucket (front ++ own) = subst (IsAboveAll latest.bucket) apart o.above in
      record {
        before = points;
        run = (time, v) ∷ [];
        cut = record {
          cut = refl;
          some = omega arith;
          early = subst (λ (ps : List (ℕ × ℤ)). All (λ (p : ℕ × ℤ). bucket_of i p.0 < next.bucket) ps) (sym o.cut.cut) (All-append (λ (p : ℕ × ℤ). bucket_of i p.0 < next.bucket) o.before o.run
              (λ k d lt. let e : bucket_of i (get_or o.before k d).0 < latest.bucket = o.cut.early k d lt in omega (arith, e, up))
              (λ k d lt. let e : bucket_of i (get_or o.run k d).0 ≡ latest.bucket = o.cut.in_bucket k d lt in omega (arith, e, up)));
          in_bucket = All-push (λ (p : ℕ × ℤ). bucket_of i p.0 ≡ next.bucket) [] (time, v) (All-nil (λ (p : ℕ × ℤ). bucket_of i p.0 ≡ next.bucket)) (sym is);
        };
        holds = subst (λ (x : ℤ). Holds next (x ∷ [])) fits holds;
        closed = subst (Closed (front ++ more) now) (sym (closed f i latest.bucket points o.before o.run o.cut))
            (c.closes front (values_of o.run) (in_buckets f i o.before) o.holds (subst (λ (ds : List (ℕ × ℤ)). Closed ds large (in_buckets f i o.before)) apart o.closed));
        above = c.above front next.bucket below up;
        rising = c.rising front below (subst IsRising apart o.rising);
      }

-- what is told at the end
pub finished : (f : Function) (i : ℕ) (dots : List (ℕ × ℤ)) (large : Option ℕ) (latest : OpenBucket) (points : List (ℕ × ℤ)) (result : Result (List (ℕ × ℤ)) DownFault) → IsOpen f i dots large latest points → Finishes f latest dots large result → GivesDown result (in_buckets f i points)
finished f i dots large latest points result o told = subst (GivesDown result) (sym (closed f i latest.bucket points o.before o.run o.cut)) (told (values_of o.run) (in_buckets f i o.before) o.holds o.closed)
