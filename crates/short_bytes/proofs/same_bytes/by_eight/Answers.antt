use Rattle.std.proofs.Common.{◌-◌, length, refl}
use Rattle.short_bytes.proofs.Sameness.{ends_same}
use Rattle.short_bytes.proofs.same_bytes.by_eight.Goals as goal

pub returns-then-same_eight-clause-same : goal.returns-then-same_eight-clause-same
returns-then-same_eight-clause-same c same =
    let one = c.args.one.now in
    ends_same 8 (length one - 8) one c.args.other.now _ _ c.requires.length c.requires.least c.requires.most refl
    c.same_eight.ensures c.if-same_eight.true c.same_eight-then-same_eight.ensures same
