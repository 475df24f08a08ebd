use Rattle.std.proofs.Common.{◌∙◌, refl}
use Rattle.command_grammar.proofs.GrammarLemmas.{made_as, with_commands}
use Rattle.command_grammar.proofs.grammar.with_listings.Goals as goal

pub returns-clause-app : goal.returns-clause-app
returns-clause-app c =
    let first = c.in_ok-command.ensures.app in
    let second = c.in_ok-command-2.ensures.app ∙ with_commands first refl in
    made_as c.with_listing-3.result (with_commands second refl) c.with_listing-3.ensures.app
