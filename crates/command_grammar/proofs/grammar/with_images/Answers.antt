use Rattle.command_grammar.proofs.GrammarLemmas.{made_as, with_commands}
use Rattle.command_grammar.proofs.grammar.with_images.Goals as goal

pub returns-clause-app : goal.returns-clause-app
returns-clause-app c = made_as c.with_command.result (with_commands c.in_ok-command.ensures.app c.unpack_grammar.ensures.shape) c.with_command.ensures.app
