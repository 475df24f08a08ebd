use Rattle.command_grammar.proofs.GrammarLemmas.{shaped_as, with_rules}
use Rattle.command_grammar.proofs.grammar.listing_grammar.Goals as goal

pub returns-clause-shape : goal.returns-clause-shape
returns-clause-shape c =
    shaped_as c.with_arg.result (with_rules c.begun-command.ensures.app c.valued.ensures.rule) c.with_arg.ensures.app
