use Rattle.std.proofs.Common.{sym, ◌∙◌}
use Rattle.listing_check.proofs.OneDot.{one_dot}
use Rattle.listing_check.proofs.cell_flaws.reads.Goals as goal

pub returns-then-is_some : goal.returns-then-is_some
returns-then-is_some c = one_dot c.args.qual.now c.args.value.now c.short_dot.result c.short_dot.ensures.reads (sym c.is_some.ensures ∙ c.if-is_some.true)
