use Rattle.std.proofs.Common.{◌∙◌}
use Rattle.command_grammar.proofs.GrammarLemmas.{shaped_as, with_rules}
use Rattle.command_grammar.proofs.grammar.batch_grammar.Goals as goal

pub returns-clause-shape : goal.returns-clause-shape
returns-clause-shape c =
    let first = c.in_ok-command.ensures.app ∙ with_rules c.begun-command.ensures.app c.word.ensures.rule in
    let second = c.in_ok-command-2.ensures.app ∙ with_rules first c.word-2.ensures.rule in
    let third = c.in_ok-command-3.ensures.app ∙ with_rules second c.word-3.ensures.rule in
    shaped_as c.with_arg-4.result (with_rules third c.flag.ensures.rule) c.with_arg-4.ensures.app
