use Rattle.std.proofs.Common.{◌≡◌, ◌+◌, pos, [], ◌∷◌, ◌++◌, drop, get_or, ap, FitsSigned, w64, rules, arith}
use Rattle.std.proofs.lemmas.Int.{to_z-of_z}
use Rattle.std.proofs.lemmas.List.{get_or_default}
use Rattle.downsample.specs.Buckets.{buckets_of}
use Rattle.downsample.specs.Downsampling.{valued}
use Rattle.downsample.proofs.Multiples.{bucket_below, next_begins}
use Rattle.downsample.proofs.Splits.{not_earlier}
use Rattle.downsample.proofs.Loops.{Turns, points_turn, kept_large, kept_next}
use Rattle.downsample.proofs.downsampling.of_points.Goals as goal

pub behind_bucket-behind-requires-clause-late : goal.behind_bucket-behind-requires-clause-late
behind_bucket-behind-requires-clause-late c = λ k d low high.
    let later = not_earlier c.args.list.now c.loop-at.at k d c.requires.rising low high in
    let same = ap (λ p. p.0) (get_or_default c.args.list.now c.loop-at.at d (0, pos 0) c.loop-at-test.true) in
    let below = bucket_below c.args.interval (get_or c.args.list.now c.loop-at.at (0, pos 0)).0 in
    let b = c.bucket_of-bucket.ensures in
    omega (arith, later, same, below, b)

pub returns-in_default : goal.returns-in_default
returns-in_default c =
    let turns : Turns c.args.interval c.bucket_of-bucket.result c.loop-at.at c.behind_bucket-behind.result c.args.list.now =
    record { up = c.behind_bucket-behind.ensures.from; within = c.behind_bucket-behind.ensures.within; to = c.behind_bucket-behind.ensures.in_bucket; later = c.behind_bucket-behind.ensures.behind } in
    let turned = points_turn c.args.function c.args.interval c.args.list.now c.loop-at.dots c.loop-at.at c.behind_bucket-behind.result c.bucket_of-bucket.result (0, pos 0) c.requires.interval c.requires.rising c.loop-at-test.true c.loop-at.invariant c.bucket_of-bucket.ensures turns in
    kept_large c.args.function c.args.interval c.args.list.now c.loop-at.dots c.loop-at.at c.bucket_of-bucket.result (valued c.args.function c.args.interval c.args.list.now (buckets_of c.args.interval c.args.list.now)) c.behind_bucket-behind.result c.requires.interval turned.0
    (buckets_of c.args.interval (drop c.behind_bucket-behind.result c.args.list.now)) turned.2 turns (c.in_default.ensures {u = tt})

pub push-requires : goal.push-requires
push-requires c =
    let turns : Turns c.args.interval c.bucket_of-bucket.result c.loop-at.at c.behind_bucket-behind.result c.args.list.now =
    record { up = c.behind_bucket-behind.ensures.from; within = c.behind_bucket-behind.ensures.within; to = c.behind_bucket-behind.ensures.in_bucket; later = c.behind_bucket-behind.ensures.behind } in
    let turned = points_turn c.args.function c.args.interval c.args.list.now c.loop-at.dots c.loop-at.at c.behind_bucket-behind.result c.bucket_of-bucket.result (0, pos 0) c.requires.interval c.requires.rising c.loop-at-test.true c.loop-at.invariant c.bucket_of-bucket.ensures turns in
    turned.2.above

pub loop-at-preserved : goal.loop-at-preserved
loop-at-preserved c =
    let turns : Turns c.args.interval c.bucket_of-bucket.result c.loop-at.at c.behind_bucket-behind.result c.args.list.now =
    record { up = c.behind_bucket-behind.ensures.from; within = c.behind_bucket-behind.ensures.within; to = c.behind_bucket-behind.ensures.in_bucket; later = c.behind_bucket-behind.ensures.behind } in
    let turned = points_turn c.args.function c.args.interval c.args.list.now c.loop-at.dots c.loop-at.at c.behind_bucket-behind.result c.bucket_of-bucket.result (0, pos 0) c.requires.interval c.requires.rising c.loop-at-test.true c.loop-at.invariant c.bucket_of-bucket.ensures turns in
    let fit : FitsSigned w64 c.in-Some.value = search rules in
    let pushed : c.push.new.self ≡ c.loop-at.dots ++ (c.bucket_of-bucket.result, c.in-Some.value) ∷ [] = simp to_z-of_z at c.in_ok-push.ensures.ok in (
      c.bucket_of-bucket.result + c.args.interval,
      next_begins c.args.interval c.bucket_of-bucket.result c.requires.interval turned.0,
      kept_next c.args.function c.args.interval c.args.list.now c.loop-at.dots c.loop-at.at c.bucket_of-bucket.result (valued c.args.function c.args.interval c.args.list.now (buckets_of c.args.interval c.args.list.now)) c.behind_bucket-behind.result c.requires.interval turned.0
          (buckets_of c.args.interval (drop c.behind_bucket-behind.result c.args.list.now)) c.in-Some.value c.push.new.self turned.2 turns (c.in-Some.ensures {u = tt}) pushed,
    )
