use Rattle.std.proofs.Common.{◌-◌, length, refl}
use Rattle.short_bytes.proofs.Sameness.{ends_same}
use Rattle.short_bytes.proofs.same_bytes.by_four.Goals as goal

pub returns-then-same_four-clause-same : goal.returns-then-same_four-clause-same
returns-then-same_four-clause-same c same =
    let one = c.args.one.now in
    ends_same 4 (length one - 4) one c.args.other.now _ _ c.requires.length c.requires.least c.requires.most refl
    c.same_four.ensures c.if-same_four.true c.same_four-then-same_four.ensures same
