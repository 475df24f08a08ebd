use Rattle.command_words.specs.PlainAsked.{plain_stdio}
use Rattle.tsd_run.proofs.StdioLemmas.{unserved}
use Rattle.tsd_run.proofs.run_alone.serve.Goals as goal

pub returns-in_default-clause-serves : goal.returns-in_default-clause-serves
returns-in_default-clause-serves g c = unserved _ (plain_stdio c.args.stdio.now) _ c.no_memory.ensures.status

pub returns-in_default-again-clause-serves : goal.returns-in_default-again-clause-serves
returns-in_default-again-clause-serves g c = unserved _ (plain_stdio c.args.stdio.now) _ c.no_memory-in_default-again.ensures.status

pub returns-in_default-new-clause-serves : goal.returns-in_default-new-clause-serves
returns-in_default-new-clause-serves g c = unserved _ (plain_stdio c.args.stdio.now) _ c.no_memory-in_default-new.ensures.status
