use Rattle.command_words.specs.PlainAsked.{plain_batch}
use Rattle.batch_run.proofs.QueryLemmas.{can_ask, is_query_of, told_fault}
use Rattle.batch_run.proofs.query.read_query.Goals as goal

pub returns-in_ok-query_of-in-Ok-clause-gives : goal.returns-in_ok-query_of-in-Ok-clause-gives
returns-in_ok-query_of-in-Ok-clause-gives c =
    let q = c.in_ok-query_of-in-Ok.ensures in
    is_query_of c.in_ok-query_of-in-Ok.field-0 (plain_batch c.args.batch.now) c.in-Ok.sub q.start q.end q.ms q.subs c.in-Ok.ensures.sub

pub returns-in_ok-query_of-in-Ok-clause-can : goal.returns-in_ok-query_of-in-Ok-clause-can
returns-in_ok-query_of-in-Ok-clause-can c =
    let q = c.in_ok-query_of-in-Ok.ensures in
    can_ask c.in_ok-query_of-in-Ok.field-0 (plain_batch c.args.batch.now) c.in-Ok.sub q.start q.end q.ms q.subs c.in-Ok.ensures.sub c.in-Ok.ensures.interval c.requires.range c.requires.end

pub returns-in-Err-clause-gives : goal.returns-in-Err-clause-gives
returns-in-Err-clause-gives c = told_fault c.in-Err.fault (plain_batch c.args.batch.now) c.in-Err.ensures.sub
