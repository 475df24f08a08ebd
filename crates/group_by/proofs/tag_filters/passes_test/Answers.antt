use Rattle.std.proofs.Common.{◌∙◌}
use Rattle.group_by.proofs.PlainFilters.{test_alike}
use Rattle.group_by.proofs.tag_filters.passes_test.Goals as goal

pub returns : goal.returns
returns c finds = c.passes_plain_test.ensures ∙ test_alike finds c.args.test.now c.args.value.now c.requires
