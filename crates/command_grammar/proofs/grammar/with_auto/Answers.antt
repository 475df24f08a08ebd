use Rattle.std.proofs.Common.{◌≡◌, IfOk, ap, subst, ◌∙◌}
use Rattle.clap.specs.Simple.{App, app_of, with_rule}
use Rattle.command_grammar.proofs.GrammarLemmas.{with_rules}
use Rattle.command_grammar.proofs.grammar.with_auto.Goals as goal

pub returns-clause-app : goal.returns-clause-app
returns-clause-app c =
    let first = c.in_ok-command.ensures.app ∙ ap (with_rule (app_of c.args.command)) c.flag.ensures.rule in
    let second = c.in_ok-command-2.ensures.app ∙ with_rules first c.flag-2.ensures.rule in
    subst (λ (a : App). IfOk c.with_arg-3.result (λ made. app_of made ≡ a)) (with_rules second c.flag-3.ensures.rule) c.with_arg-3.ensures.app
