use Rattle.std.proofs.Common.{◌-◌, get_or}
use Rattle.metric_scan.proofs.Jumps.{id_named, value_more}
use Rattle.metric_scan.proofs.key_jump.behind.Goals as goal

pub returns : goal.returns
returns c =
    let k = c.key_at.ensures in
    let value = (get_or c.as_slice.result.now (c.args.place - 1) (0, 0)).1 in
    value_more c.args.widths c.args.key.now c.as_slice.result.now c.args.place c.in_ok-next.next c.key_at.result c.requires.key c.as_slice.ensures.value c.requires.inside c.if-place-eq0.false
    (id_named _ _ value c.in_ok-next.next c.most_ids.ensures c.in_ok-next.ensures) k.metric k.base k.pairs
