use Rattle.command_words.specs.PlainAsked.{plain_stdio}
use Rattle.tsd_run.proofs.StdioLemmas.{admitted, served_by}
use Rattle.tsd_run.proofs.run_alone.serve_by.Goals as goal

pub returns-clause-serves : goal.returns-clause-serves
returns-clause-serves g c =
    let stdio = plain_stdio c.args.stdio.now in
    served_by stdio _ _ _ _ _ (admitted stdio.names stdio.appends c.config_of-config.result c.args.rule.now.patterns c.config_of-config.ensures c.requires.rule) c.status_of-status.ensures c.serve_alone-served.ensures.served
