use Rattle.std.proofs.Common.{◌∙◌}
use Rattle.command_grammar.proofs.GrammarLemmas.{made_as, with_rules}
use Rattle.command_grammar.proofs.grammar.with_sizes.Goals as goal

pub returns-clause-app : goal.returns-clause-app
returns-clause-app c =
    let first = c.in_ok-command.ensures.app ∙ with_rules c.begun-command.ensures.app c.word.ensures.rule in
    let second = c.in_ok-command-2.ensures.app ∙ with_rules first c.valued.ensures.rule in
    let third = c.in_ok-command-3.ensures.app ∙ with_rules second c.valued-2.ensures.rule in
    made_as c.with_arg-4.result (with_rules third c.valued-3.ensures.rule) c.with_arg-4.ensures.app
