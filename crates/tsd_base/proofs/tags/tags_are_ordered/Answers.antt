use Rattle.tsd_base.specs.TagOrder.{tags_cmp_total, tags_cmp_exact}
use Rattle.tsd_base.proofs.tags.tags_are_ordered.Goals as goal

pub returns : goal.returns
returns c = record { total = tags_cmp_total; exact = tags_cmp_exact }
