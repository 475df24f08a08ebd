use Rattle.std.proofs.Common.{◌∙◌}
use Rattle.clap.specs.Simple.{app_of}
use Rattle.command_grammar.proofs.GrammarLemmas.{made_as, with_commands}
use Rattle.command_grammar.proofs.grammar.with_connections.Goals as goal

pub returns-clause-app : goal.returns-clause-app
returns-clause-app c =
    let first = c.in_ok-command.ensures.app ∙ with_commands (λ _. app_of c.args.command) c.in_ok-batch_grammar.ensures.shape in
    let second = c.in_ok-command-2.ensures.app ∙ with_commands first c.in_ok-stdio_grammar.ensures.shape in
    made_as c.with_command-3.result (with_commands second c.in_ok-serve_grammar.ensures.shape) c.with_command-3.ensures.app
