use Rattle.std.proofs.Common.{◌≡◌, ◌<◌, ◌+◌, ◌&&◌, ◌∙◌, length, sym, ap, subst, rules, arith}
use Rattle.std.specs.List.{filter_map}
use Rattle.lerp_aggregate.specs.Aggregation.{given_at}
use Rattle.lerp_aggregate.specs.Tally.{HasRoom, Adds}
use Rattle.lerp_aggregate.specs.Walks.{is_due, next_of, walk_ahead, walked, StandAt}
use Rattle.lerp_aggregate.proofs.Walking.{pairs_of, room_left, room_right, adds_both, adds_none, skipped, skips, late}
use Rattle.lerp_aggregate.proofs.cursors.Walk.+turn.Goals as goal

pub turn-requires-then-is_due : goal.turn-requires-then-is_due
turn-requires-then-is_due t c =
    let list = c.args.list.now in
    let d : pairs_of c.args.self.now ≡ t = c.decreases in
    let e = ap pairs_of c.in-Both.is in
    let f = ap pairs_of c.deref_mut.ensures.value in
    let less : pairs_of c.deref_mut.result.now < t = omega (arith, d, e, f) in
    (less, (search rules, (c.requires.limit, subst (λ w. HasRoom c.args.tally.now (length (walked list w))) (sym c.deref_mut.ensures.value) (room_left list c.args.tally.now c.in-Both.left.value c.in-Both.right.value (subst (λ w. HasRoom c.args.tally.now (length (walked list w))) c.in-Both.is c.requires.room)))))

pub turn-requires-then-is_due-2 : goal.turn-requires-then-is_due-2
turn-requires-then-is_due-2 t c =
    let list = c.args.list.now in
    let tally = c.args.tally.now in
    let mid = c.turn-then-is_due.new.tally in
    let between = c.args.between in
    let time = c.args.time in
    let room : HasRoom tally (length (walked list c.args.self.now)) = c.requires.room in
    let adds : Adds tally mid (filter_map (λ s. given_at between s time) (walked list c.deref_mut.result.now)) = c.turn-then-is_due.ensures.adds in
    let d : pairs_of c.args.self.now ≡ t = c.decreases in
    let e = ap pairs_of c.in-Both.is in
    let f = ap pairs_of c.deref_mut-then-is_due.ensures.value in
    let less : pairs_of c.deref_mut-then-is_due.result.now < t = omega (arith, d, e, f) in (
      less,
      (
        search rules,
        (
          c.requires.limit,
          subst (λ w. HasRoom mid (length (walked list w))) (sym c.deref_mut-then-is_due.ensures.value)
              (room_right list tally mid between time c.in-Both.left.value c.in-Both.right.value (subst (λ w. HasRoom tally (length (walked list w))) c.in-Both.is room)
              (subst (λ w. Adds tally mid (filter_map (λ s. given_at between s time) (walked list w))) c.deref_mut.ensures.value adds)),
        ),
      ),
    )

pub returns-then-is_due-clause-adds : goal.returns-then-is_due-clause-adds
returns-then-is_due-clause-adds t c =
    let list = c.args.list.now in
    let tally = c.args.tally.now in
    let mid = c.turn-then-is_due.new.tally in
    let new = c.turn-then-is_due-2.new.tally in
    let between = c.args.between in
    let time = c.args.time in
    let first : Adds tally mid (filter_map (λ s. given_at between s time) (walked list c.deref_mut.result.now)) = c.turn-then-is_due.ensures.adds in
    let second : Adds mid new (filter_map (λ s. given_at between s time) (walked list c.deref_mut-then-is_due.result.now)) = c.turn-then-is_due-2.ensures.adds in
    subst (λ w. Adds tally new (filter_map (λ s. given_at between s time) (walked list w))) (sym c.in-Both.is)
    (adds_both list tally mid new between time c.in-Both.left.value c.in-Both.right.value
    (subst (λ w. Adds tally mid (filter_map (λ s. given_at between s time) (walked list w))) c.deref_mut.ensures.value first)
    (subst (λ w. Adds mid new (filter_map (λ s. given_at between s time) (walked list w))) c.deref_mut-then-is_due.ensures.value second))

pub returns-else-is_due-clause-stand : goal.returns-else-is_due-clause-stand
returns-else-is_due-clause-stand t c =
    let list = c.args.list.now in
    let time = c.args.time in
    let self = c.args.self.now in
    let due = ap (λ w. is_due (next_of w) (c.args.between && (walk_ahead w).inside) time) c.in-Both.is ∙ sym c.if-is_due.ensures in
    subst (StandAt list (time + 1)) c.in-Both.is (skipped list c.args.between time self c.requires.stand (skips (c.args.between && (walk_ahead self).inside) time (next_of self) (late list time self c.requires.stand) due)).1

pub returns-else-is_due-clause-adds : goal.returns-else-is_due-clause-adds
returns-else-is_due-clause-adds t c =
    let list = c.args.list.now in
    let time = c.args.time in
    let self = c.args.self.now in
    let due = ap (λ w. is_due (next_of w) (c.args.between && (walk_ahead w).inside) time) c.in-Both.is ∙ sym c.if-is_due.ensures in
    adds_none list c.args.tally.now (filter_map (λ series. given_at c.args.between series time) (walked list self)) (skipped list c.args.between time self c.requires.stand (skips (c.args.between && (walk_ahead self).inside) time (next_of self) (late list time self c.requires.stand) due)).0

pub returns-in-One-clause-adds : goal.returns-in-One-clause-adds
returns-in-One-clause-adds t c = subst (λ w. Adds c.args.tally.now c.turn.new.tally (filter_map (λ series. given_at c.args.between series c.args.time) (walked c.args.list.now w))) (sym c.in-One.is) c.turn.ensures.adds
