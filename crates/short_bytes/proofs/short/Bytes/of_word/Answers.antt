use Rattle.std.proofs.Common.{◌∙◌, arith}
use Rattle.short_bytes.proofs.Spelled.{spelled_filled}
use Rattle.short_bytes.proofs.short.Bytes.of_word.Goals as goal

pub invariant_of-result : goal.invariant_of-result
invariant_of-result c =
    let short = c.requires.0 in
    (omega (arith, short), spelled_filled c.args.bytes.now c.copy_from_slice.new.self short (c.copy_from_slice.ensures.after ∙ c.to_le_bytes.ensures ∙ c.requires.1))
