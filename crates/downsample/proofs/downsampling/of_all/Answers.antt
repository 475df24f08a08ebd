use Rattle.std.proofs.Common.{◌≡◌, ◌+◌, ◌*◌, ◌-◌, [], ◌∷◌, ◌++◌, ◌∙◌, FitsSigned, w64, rules, arith}
use Rattle.std.proofs.lemmas.Int.{to_z-of_z}
use Rattle.downsample.specs.Buckets.{all_buckets}
use Rattle.lerp_aggregate.specs.FilledGroups.{times_from}
use Rattle.downsample.specs.Downsampling.{valued}
use Rattle.lerp_aggregate.proofs.CallerLemmas.{length-times}
use Rattle.downsample.proofs.Multiples.{bucket_within, bucket_on}
use Rattle.downsample.proofs.Loops.{Turns, buckets_none, buckets_turn, buckets_next, buckets_all, kept_large, kept_next}
use Rattle.downsample.proofs.downsampling.of_all.Goals as goal

pub loop-k-init : goal.loop-k-init
loop-k-init c = buckets_none c.args.function c.args.interval c.args.list.now c.in_ok-dots.dots c.behind_bucket-at.result c.args.start c.args.end c.bucket_of-first.result c.buckets-k-end.result c.in_ok-dots.ensures c.bucket_of-first.ensures
    (c.buckets-k-end.ensures ∙ length-times c.args.interval _ _) c.behind_bucket-at.ensures.within c.behind_bucket-at.ensures.in_bucket c.behind_bucket-at.ensures.behind

pub overflow_mul-bucket : goal.overflow_mul-bucket
overflow_mul-bucket c =
    let count = c.buckets-k-end.ensures ∙ length-times c.args.interval _ _ in
    let within = bucket_within c.args.interval c.args.start c.args.end c.loop-k.k c.requires.interval c.requires.order (omega (arith, count, c.loop-k-test.true)) in
    let most = c.requires.end in
    omega (arith, within, most)

pub overflow_add-bucket : goal.overflow_add-bucket
overflow_add-bucket c =
    let count = c.buckets-k-end.ensures ∙ length-times c.args.interval _ _ in
    let within = bucket_within c.args.interval c.args.start c.args.end c.loop-k.k c.requires.interval c.requires.order (omega (arith, count, c.loop-k-test.true)) in
    let most = c.requires.end in
    let first = c.bucket_of-first.ensures in
    omega (arith, within, most, first)

pub returns-in_default : goal.returns-in_default
returns-in_default c =
    let bucket = c.bucket_of-first.result + c.loop-k.k * c.args.interval in
    let wanted = valued c.args.function c.args.interval c.args.list.now (all_buckets c.args.interval c.args.start c.args.end) in
    let rest = times_from c.args.interval (bucket + c.args.interval) (c.buckets-k-end.result - (c.loop-k.k + 1)) in
    let begins = bucket_on c.args.interval c.args.start c.loop-k.k c.bucket_of-first.result c.requires.interval c.bucket_of-first.ensures in
    let turns : Turns c.args.interval bucket c.loop-k.at c.behind_bucket-behind.result c.args.list.now =
    record { up = c.behind_bucket-behind.ensures.from; within = c.behind_bucket-behind.ensures.within; to = c.behind_bucket-behind.ensures.in_bucket; later = c.behind_bucket-behind.ensures.behind } in
    let kept = buckets_turn c.args.function c.args.interval c.args.list.now c.loop-k.dots c.loop-k.at c.bucket_of-first.result c.loop-k.k c.buckets-k-end.result wanted c.loop-k-test.true c.loop-k.invariant in
    kept_large c.args.function c.args.interval c.args.list.now c.loop-k.dots c.loop-k.at bucket wanted c.behind_bucket-behind.result c.requires.interval begins rest kept turns (c.in_default.ensures {u = tt})

pub loop-k-preserved : goal.loop-k-preserved
loop-k-preserved c =
    let bucket = c.bucket_of-first.result + c.loop-k.k * c.args.interval in
    let wanted = valued c.args.function c.args.interval c.args.list.now (all_buckets c.args.interval c.args.start c.args.end) in
    let rest = times_from c.args.interval (bucket + c.args.interval) (c.buckets-k-end.result - (c.loop-k.k + 1)) in
    let begins = bucket_on c.args.interval c.args.start c.loop-k.k c.bucket_of-first.result c.requires.interval c.bucket_of-first.ensures in
    let turns : Turns c.args.interval bucket c.loop-k.at c.behind_bucket-behind.result c.args.list.now =
    record { up = c.behind_bucket-behind.ensures.from; within = c.behind_bucket-behind.ensures.within; to = c.behind_bucket-behind.ensures.in_bucket; later = c.behind_bucket-behind.ensures.behind } in
    let kept = buckets_turn c.args.function c.args.interval c.args.list.now c.loop-k.dots c.loop-k.at c.bucket_of-first.result c.loop-k.k c.buckets-k-end.result wanted c.loop-k-test.true c.loop-k.invariant in
    let fit : FitsSigned w64 c.in-Some.value = search rules in
    let pushed : c.push.new.self ≡ c.loop-k.dots ++ (bucket, c.in-Some.value) ∷ [] = simp to_z-of_z at c.in_ok-push.ensures.ok in
    buckets_next c.args.function c.args.interval c.args.list.now c.push.new.self c.behind_bucket-behind.result c.bucket_of-first.result c.loop-k.k c.buckets-k-end.result wanted
    (kept_next c.args.function c.args.interval c.args.list.now c.loop-k.dots c.loop-k.at bucket wanted c.behind_bucket-behind.result c.requires.interval begins rest c.in-Some.value c.push.new.self kept turns (c.in-Some.ensures {u = tt}) pushed)

pub returns : goal.returns
returns c = buckets_all c.args.function c.args.interval c.args.list.now c.loop-k.dots c.loop-k.at c.bucket_of-first.result c.loop-k.k c.buckets-k-end.result (valued c.args.function c.args.interval c.args.list.now (all_buckets c.args.interval c.args.start c.args.end)) c.loop-k-test.false c.loop-k.invariant
