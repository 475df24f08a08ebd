use Rattle.std.proofs.Common.{◌≡◌, arith, rules}
use Rattle.qual_codec.proofs.Bits.{eight_left}
use Rattle.qual_codec.proofs.merge.push_value.Goals as goal

pub returns-in_default : goal.returns-in_default
returns-in_default c =
    let eight : c.args.len ≡ 8 = eight_left c.args.len c.requires.len (λ e. omega arith) (λ e. omega arith) (λ e. omega arith) in
    rw eight (search rules)
