use Rattle.std.proofs.Common.{None, arith}
use Rattle.lerp_aggregate.proofs.Bundling.{room_for_next, turned_more, turned_all}
use Rattle.lerp_aggregate.proofs.cursors.turn_all.Goals as goal

pub turn_one-left-requires-clause-stand : goal.turn_one-left-requires-clause-stand
turn_one-left-requires-clause-stand c = c.loop-i.invariant.left c.loop-i.i (record { index = 0; place = 0; next = None }) (omega arith) (omega arith)

pub turn_one-left-requires-clause-room : goal.turn_one-left-requires-clause-room
turn_one-left-requires-clause-room c = room_for_next c.args.list.now c.args.between c.args.time c.args.cursors.now c.args.tally.now c.loop-i.i c.loop-i.cursors c.loop-i.tally c.loop-i.next c.loop-i.invariant c.requires.room (omega arith)

pub loop-i-preserved : goal.loop-i-preserved
loop-i-preserved c =
    let h = c.turn_one-left.ensures in
    turned_more c.args.list.now c.args.between c.args.time c.args.cursors.now c.args.tally.now c.loop-i.i c.loop-i.cursors c.loop-i.tally c.loop-i.next c.loop-i.invariant
    c.turn_one-left.new.cursor (record { index = 0; place = 0; next = None }) c.turn_one-left.new.tally c.turn_one-left.result c.earlier-next.result (omega arith) h.index h.stand h.adds h.next c.earlier-next.ensures

pub returns : goal.returns
returns c =
    let all = turned_all c.args.list.now c.args.between c.args.time c.args.cursors.now c.args.tally.now c.loop-i.i c.loop-i.cursors c.loop-i.tally c.loop-i.next c.loop-i.invariant (omega arith) in
    record { series = c.loop-i.invariant.series; stand = all.0; adds = all.1; next = all.2 }
