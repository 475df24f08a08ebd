use Rattle.std.proofs.Common.{◌-◌, length, take, drop, replicate, refl, ap, ◌∙◌}
use Rattle.std.proofs.lemmas.List.{drop_at, take_at}
use Rattle.short_bytes.proofs.short.Bytes.filled.Goals as goal

pub invariant_of-result : goal.invariant_of-result
invariant_of-result c =
    let n = length c.args.bytes.now in
    (c.requires, ap (drop n) c.fill.ensures ∙ drop_at c.args.bytes.now (replicate (30 - n) 0) n refl)

pub returns : goal.returns
returns c =
    let n = length c.args.bytes.now in
    ap (take n) c.fill.ensures ∙ take_at c.args.bytes.now (replicate (30 - n) 0) n refl
