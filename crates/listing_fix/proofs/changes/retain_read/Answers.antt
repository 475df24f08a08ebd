use Rattle.std.proofs.Common.{rules}
use Rattle.std.proofs.lemmas.Fn.{filter_same}
use Rattle.listing_fix.specs.Steps.{reads}
use Rattle.listing_fix.proofs.changes.retain_read.Goals as goal

pub returns : goal.returns
returns c = filter_same _ (reads c.args.widths) _ (λ x b f k. (search rules, search rules)) _ _ c.retain.ensures.filtered
