use Rattle.std.proofs.Common.{rules, arith}
use Rattle.lerp_aggregate.proofs.Filled.{counts_all, few_counted, has_room, made_filled}
use Rattle.lerp_aggregate.proofs.filled_groups.value_filled.Goals as goal

pub fill-requires-clause-few : goal.fill-requires-clause-few
fill-requires-clause-few c = few_counted c.args.list.now c.args.walk.now c.args.time c.new-tally.result c.turn.new.tally c.turn.new.tally c.requires.all c.new-tally.ensures.counts c.turn.ensures.adds (search rules)

pub value-requires-clause-some : goal.value-requires-clause-some
value-requires-clause-some c =
    let all = counts_all c.args.list.now c.args.walk.now c.args.time c.new-tally.result c.turn.new.tally c.fill.new.self c.requires.all c.new-tally.ensures.counts c.turn.ensures.adds (search rules) c.fill.ensures in
    omega (arith, all, c.requires.some)

pub value-requires-clause-room : goal.value-requires-clause-room
value-requires-clause-room c = has_room c.args.list.now c.args.walk.now c.args.time c.new-tally.result c.turn.new.tally c.fill.new.self c.requires.all c.new-tally.ensures.counts c.turn.ensures.adds (search rules) c.fill.ensures

pub returns-clause-value : goal.returns-clause-value
returns-clause-value c =
    made_filled c.args.list.now c.args.walk.now c.args.time c.new-tally.result c.turn.new.tally c.fill.new.self c.requires.all c.new-tally.ensures.counts c.turn.ensures.adds (search rules) c.fill.ensures c.args.how c.value.result c.value.ensures
