use Rattle.std.proofs.Common.{◌∙◌}
use Rattle.group_by.proofs.PlainFilters.{alike}
use Rattle.group_by.proofs.tag_filters.passes.Goals as goal

pub returns : goal.returns
returns c finds = c.passes_plain.ensures ∙ alike finds c.args.filters.now c.args.tags.now c.requires
