use Rattle.command_words.specs.PlainAsked.{plain_batch}
use Rattle.batch_run.proofs.RunLemmas.{memory_cause, query_refused}
use Rattle.batch_run.proofs.printing.run_batch.Goals as goal

pub returns-in-Ok-clause-works : goal.returns-in-Ok-clause-works
returns-in-Ok-clause-works g c = c.run_query.ensures.works (plain_batch c.args.batch.now) c.in-Ok.ensures.gives

pub returns-in-Err-clause-works : goal.returns-in-Err-clause-works
returns-in-Err-clause-works g c =
    let s = g.S.Source in
    query_refused (s.taken c.args.input.now) (s.left c.args.input.now) (plain_batch c.args.batch.now) c.in-Err.fault c.refused_query.result c.in-Err.ensures.gives c.refused_query.ensures.refused c.refused_query.ensures.fails

pub returns-in-Err-clause-cause : goal.returns-in-Err-clause-cause
returns-in-Err-clause-cause g c = memory_cause _ _ _ _ c.refused_query.result c.refused_query.ensures.fails
