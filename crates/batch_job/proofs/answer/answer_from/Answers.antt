use Rattle.batch_job.proofs.AnswerLemmas.{gives_answer}
use Rattle.batch_job.proofs.answer.answer_from.Goals as goal

pub returns-clause-answers : goal.returns-clause-answers
returns-clause-answers g c = λ s points one stored.
    gives_answer c.args.query.now s points (g.R.Rows.seen c.args.store.now.rows) (g.R.Rows.seen c.ask.new.names.rows) stored c.answer_is_unordered.ensures one c.ask.result c.ask.ensures.says
