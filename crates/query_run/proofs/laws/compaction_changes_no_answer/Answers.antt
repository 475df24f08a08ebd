use Rattle.query_run.proofs.SameAnswer.{same_answer, compaction_changes_nothing, one_value_answered, alone_gives as gives_alone}
use Rattle.query_run.proofs.laws.compaction_changes_no_answer.Goals as goal

pub returns-clause-same : goal.returns-clause-same
returns-clause-same c = same_answer c.answer_is_unordered.ensures

pub returns-clause-compaction : goal.returns-clause-compaction
returns-clause-compaction c = compaction_changes_nothing c.answer_is_unordered.ensures

pub returns-clause-one_value : goal.returns-clause-one_value
returns-clause-one_value c = one_value_answered

pub returns-clause-alone : goal.returns-clause-alone
returns-clause-alone c = gives_alone
