use Rattle.clap.specs.Simple.{app_of}
use Rattle.command_grammar.proofs.GrammarLemmas.{made_as, with_commands}
use Rattle.command_grammar.proofs.grammar.with_listing.Goals as goal

pub returns-clause-app : goal.returns-clause-app
returns-clause-app c = made_as c.with_command.result (with_commands (λ _. app_of c.args.command) c.in_ok-listing.ensures.shape) c.with_command.ensures.app
