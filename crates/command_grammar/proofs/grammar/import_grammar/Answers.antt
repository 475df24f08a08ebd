use Rattle.std.proofs.Common.{◌∙◌}
use Rattle.command_grammar.proofs.GrammarLemmas.{shaped_as, with_rules}
use Rattle.command_grammar.proofs.grammar.import_grammar.Goals as goal

pub returns-clause-shape : goal.returns-clause-shape
returns-clause-shape c =
    let first = c.in_ok-command.ensures.app ∙ with_rules c.begun-command.ensures.app c.flag.ensures.rule in
    shaped_as c.with_arg-2.result (with_rules first c.valued.ensures.rule) c.with_arg-2.ensures.app
