use Rattle.std.proofs.Common.{rules}
use Rattle.std.proofs.lemmas.Fn.{filter_same}
use Rattle.qual_codec.specs.Merge.{is_within}
use Rattle.qual_codec.proofs.merge.cut.Goals as goal

pub returns : goal.returns
returns c = filter_same _ (is_within c.args.first c.args.last) _ (λ x b f k. (search rules, search rules)) _ _ c.retain.ensures.filtered
