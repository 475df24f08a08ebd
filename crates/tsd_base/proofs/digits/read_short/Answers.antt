use Rattle.std.proofs.Common.{arith, ap, ◌-◌, length, drop, length-take, length-drop}
use Rattle.tsd_base.proofs.DigitRuns.{digits_value-most, read_behind}
use Rattle.tsd_base.proofs.digits.read_short.Goals as goal

pub read_behind-requires : goal.read_behind-requires
read_behind-requires c =
    let first = c.in-Some.ensures.cases in
    let value = c.in_ok-read_eight.ensures in
    let below = digits_value-most 8 c.in-Some.first.now (omega (arith, ap length first.same, length-take 8 c.args.text.now)) value.0 in
    (omega (arith, below, value.1), omega (arith, c.requires, length-take (length c.args.text.now - 8) (drop 8 c.args.text.now), length-drop 8 c.args.text.now, first.enough))

pub returns-in-Some : goal.returns-in-Some
returns-in-Some c =
    let first = c.in-Some.ensures.cases in
    read_behind c.args.text.now c.in-Some.first.now 8 _ _ (omega arith) first.enough c.requires first.same c.in_ok-read_eight.ensures c.read_behind.ensures

pub read_behind-requires-in-Some-first_chunk : goal.read_behind-requires-in-Some-first_chunk
read_behind-requires-in-Some-first_chunk c =
    let first = c.in-Some-first_chunk.ensures.cases in
    let value = c.in_ok-read_four.ensures in
    let below = digits_value-most 8 c.in-Some-first_chunk.first.now (omega (arith, ap length first.same, length-take 4 c.args.text.now)) value.0 in
    (omega (arith, below, value.1), omega (arith, c.in_default.ensures.cases, length-take (length c.args.text.now - 4) (drop 4 c.args.text.now), length-drop 4 c.args.text.now, first.enough))

pub returns-in-Some-first_chunk : goal.returns-in-Some-first_chunk
returns-in-Some-first_chunk c =
    let first = c.in-Some-first_chunk.ensures.cases in
    read_behind c.args.text.now c.in-Some-first_chunk.first.now 4 _ _ (omega arith) first.enough c.requires first.same c.in_ok-read_four.ensures c.read_behind-in-Some-first_chunk.ensures
