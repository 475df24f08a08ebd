use Rattle.std.proofs.Common.{◌-◌, length, refl}
use Rattle.short_bytes.proofs.Sameness.{ends_same}
use Rattle.short_bytes.proofs.same_bytes.by_two.Goals as goal

pub returns-then-same_two-clause-same : goal.returns-then-same_two-clause-same
returns-then-same_two-clause-same c same =
    let one = c.args.one.now in
    ends_same 2 (length one - 2) one c.args.other.now _ _ c.requires.length c.requires.least c.requires.most refl
    c.same_two.ensures c.if-same_two.true c.same_two-then-same_two.ensures same
