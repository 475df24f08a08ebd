use Rattle.std.proofs.Common.{◌∙◌, ap}
use Rattle.clap.specs.Simple.{app_of, with_rule}
use Rattle.command_grammar.proofs.GrammarLemmas.{made_as, with_rules}
use Rattle.command_grammar.proofs.grammar.with_keeping.Goals as goal

pub returns-clause-app : goal.returns-clause-app
returns-clause-app c =
    let first = c.in_ok-command.ensures.app ∙ ap (with_rule (app_of c.args.command)) c.flag.ensures.rule in
    made_as c.with_arg-2.result (with_rules first c.flag-2.ensures.rule) c.with_arg-2.ensures.app
