use Rattle.std.proofs.Common.{sym, ap, ◌∙◌}
use Rattle.tsd_hooks.specs.AllowedNames.{allowed}
use Rattle.uid_table.proofs.Making.{given_allowed, filtered}
use Rattle.uid_table.proofs.assign.give_allowed.Goals as goal

pub returns-then-allows-clause-made : goal.returns-then-allows-clause-made
returns-then-allows-clause-made g c =
    let patterns = c.args.rule.now.patterns in
    given_allowed _ _ patterns c.args.kind c.args.row.now.bytes _ (ap (allowed patterns c.args.kind) c.requires.same ∙ (sym c.allows.ensures ∙ c.if-allows.true)) c.give.ensures.made

pub returns-else-allows-clause-made : goal.returns-else-allows-clause-made
returns-else-allows-clause-made g c =
    let patterns = c.args.rule.now.patterns in
    filtered _ patterns c.args.kind c.args.row.now.bytes (ap (allowed patterns c.args.kind) c.requires.same ∙ (sym c.allows.ensures ∙ c.if-allows.false))
