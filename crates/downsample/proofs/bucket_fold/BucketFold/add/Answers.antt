use Rattle.std.proofs.Common.{◌++◌, ◌∙◌, refl, FitsSigned, w64, rules, arith}
use Rattle.std.proofs.lemmas.Int.{to_z-of_z}
use Rattle.downsample.proofs.Opening.{rising_push}
use Rattle.downsample.proofs.Adding.{opened, not_before, above_right, room, stays, opens}
use Rattle.downsample.proofs.bucket_fold.BucketFold.add.Goals as goal

pub overflow_sub-time : goal.overflow_sub-time
overflow_sub-time c =
    let s = c.args.self.now in
    not_before s.function s.interval (c.requires.front ++ s.closed) s.large c.in-Some.latest c.requires.points c.args.time
    (opened s.function s.interval (c.requires.front ++ s.closed) s.large s.latest c.in-Some.latest c.requires.points c.in-Some.is c.requires.folds.2) c.requires.above

pub add-requires : goal.add-requires
add-requires c =
    let s = c.args.self.now in
    record {
      room = room s.function s.interval (c.requires.front ++ s.closed) s.large c.in-Some.latest c.requires.points
          (opened s.function s.interval (c.requires.front ++ s.closed) s.large s.latest c.in-Some.latest c.requires.points c.in-Some.is c.requires.folds.2) c.requires.folds.0 c.requires.folds.1 1 (omega arith);
    }

pub close-requires-clause-room : goal.close-requires-clause-room
close-requires-clause-room c =
    let s = c.args.self.now in
    room s.function s.interval (c.requires.front ++ s.closed) s.large c.in-Some.latest c.requires.points
    (opened s.function s.interval (c.requires.front ++ s.closed) s.large s.latest c.in-Some.latest c.requires.points c.in-Some.is c.requires.folds.2) c.requires.folds.0 c.requires.folds.1 0 (omega arith)

pub close-requires-clause-above : goal.close-requires-clause-above
close-requires-clause-above c =
    let s = c.args.self.now in
    let o = opened s.function s.interval (c.requires.front ++ s.closed) s.large s.latest c.in-Some.latest c.requires.points c.in-Some.is c.requires.folds.2 in
    above_right c.in-Some.latest.bucket c.requires.front s.closed o.above

pub returns-then-time-latest-clause-ok : goal.returns-then-time-latest-clause-ok
returns-then-time-latest-clause-ok c = λ front points folds above.
    let s = c.args.self.now in
    let fit : FitsSigned w64 c.args.value = search rules in
    let o = opened s.function s.interval (front ++ s.closed) s.large s.latest c.in-Some.latest points c.in-Some.is folds.2 in (
      rising_push points (c.args.time, c.args.value) folds.0 above,
      folds.1,
      stays s.function s.interval (front ++ s.closed) s.large c.in-Some.latest points c.args.time o above c.args.value _ c.add.new.self (to_z-of_z w64 c.args.value fit) folds.1.0 c.if-time-latest.true c.add.ensures.bucket c.add.ensures.holds,
    )

pub returns-in-Some-clause-ok : goal.returns-in-Some-clause-ok
returns-in-Some-clause-ok c = λ front points folds above.
    let s = c.args.self.now in
    let fit : FitsSigned w64 c.args.value = search rules in
    let o = opened s.function s.interval (front ++ s.closed) s.large s.latest c.in-Some.latest points c.in-Some.is folds.2 in (
      rising_push points (c.args.time, c.args.value) folds.0 above,
      folds.1,
      opens s.function s.interval (front ++ s.closed) s.large c.in-Some.latest points c.args.time o above front s.closed c.close.new.closed c.args.value _ c.of.result c.close.new.large refl (to_z-of_z w64 c.args.value fit) folds.1.0 c.if-time-latest.false
          (c.of.ensures.bucket ∙ c.bucket_of.ensures) c.of.ensures.holds c.in_ok-close.ensures.closes,
    )
