use Rattle.std.proofs.Common.{◌∙◌, ap}
use Rattle.command_grammar.specs.Grammar.{with_puts}
use Rattle.command_grammar.proofs.GrammarLemmas.{shaped_as, with_rules}
use Rattle.command_grammar.proofs.grammar.stdio_grammar.Goals as goal

pub returns-clause-shape : goal.returns-clause-shape
returns-clause-shape c =
    let puts = c.in_ok-command.ensures.app ∙ ap with_puts c.begun.ensures.app in
    let second = c.in_ok-command-2.ensures.app ∙ with_rules puts c.valued.ensures.rule in
    shaped_as c.with_arg-2.result (with_rules second c.valued-2.ensures.rule) c.with_arg-2.ensures.app
