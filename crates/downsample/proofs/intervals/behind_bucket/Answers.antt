use Rattle.std.proofs.Common.{pos, ap, arith}
use Rattle.std.proofs.lemmas.List.{get_or_default}
use Rattle.downsample.proofs.Splits.{not_earlier}
use Rattle.downsample.proofs.intervals.behind_bucket.Goals as goal

pub returns-else-list-at-clause-behind : goal.returns-else-list-at-clause-behind
returns-else-list-at-clause-behind c = λ k d low high.
    let later = not_earlier c.args.list.now c.loop-at.at k d c.requires.rising low high in
    let same = ap (λ p. p.0) (get_or_default c.args.list.now c.loop-at.at d (0, pos 0) (omega (arith, low, high))) in
    let far = c.if-list-at.false in
    omega (arith, later, same, far)
