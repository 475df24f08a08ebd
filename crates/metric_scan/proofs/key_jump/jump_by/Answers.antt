use Rattle.std.proofs.Common.{get_or}
use Rattle.metric_scan.proofs.Jumps.{its_value_fails, value_target, other_target, last_target, none_next, some_next}
use Rattle.metric_scan.proofs.key_jump.jump_by.Goals as goal

pub returns-then-id-filter : goal.returns-then-id-filter
returns-then-id-filter c =
    let p = c.place_of-place.ensures in
    other_target c.args.widths c.args.key.now c.as_slice-pairs.result.now c.place_of-place.result c.requires.key c.as_slice-pairs.ensures.value p.most c.if-place-pairs.false c.args.filter.now c.behind.result p.before p.at c.if-id-filter.true c.behind.ensures

pub next_value-requires : goal.next_value-requires
next_value-requires c =
    let p = c.place_of-place.ensures in
    its_value_fails c.args.widths c.args.key.now c.as_slice-pairs.result.now c.place_of-place.result c.requires.key c.as_slice-pairs.ensures.value p.most c.if-place-pairs.false c.args.filter.now c.requires.fails c.if-id-filter.false

pub returns-in_default : goal.returns-in_default
returns-in_default c =
    let p = c.place_of-place.ensures in
    last_target c.args.widths c.args.key.now c.as_slice-pairs.result.now c.place_of-place.result c.requires.key c.as_slice-pairs.ensures.value p.most c.if-place-pairs.false c.args.filter.now c.behind-in_default.result p.before c.if-id-filter.false
    (none_next _ _ _ _ c.next_value.result c.most_ids.ensures c.in_default.is c.next_value.ensures) c.behind-in_default.ensures

pub returns : goal.returns
returns c =
    let p = c.place_of-place.ensures in
    let k = c.key_at.ensures in
    let value = (get_or c.as_slice-pairs.result.now c.place_of-place.result (0, 0)).1 in
    value_target c.args.widths c.args.key.now c.as_slice-pairs.result.now c.place_of-place.result c.requires.key c.as_slice-pairs.ensures.value p.most c.if-place-pairs.false c.args.filter.now c.key_at.result c.in-Some.next c.if-id-filter.false
    (some_next _ _ c.args.filter.now.test value c.in-Some.next c.most_ids.ensures c.in-Some.ensures) k.metric k.base k.pairs
