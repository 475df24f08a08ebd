use Rattle.std.proofs.Common.{◌∙◌, ap}
use Rattle.command_grammar.specs.Grammar.{with_connections, with_images, with_listings, with_makers}
use Rattle.command_grammar.proofs.GrammarLemmas.{made_as}
use Rattle.command_grammar.proofs.grammar.grammar.Goals as goal

pub returns : goal.returns
returns c =
    let connections = c.in_ok-command.ensures.app ∙ ap with_connections c.root-command.ensures.app in
    let makers = c.in_ok-command-2.ensures.app ∙ ap with_makers connections in
    let listings = c.in_ok-command-3.ensures.app ∙ ap with_listings makers in
    made_as c.with_images.result (ap with_images listings) c.with_images.ensures.app
