use Rattle.query_run.proofs.Unordered.{unordered}
use Rattle.query_run.proofs.laws.answer_is_unordered.Goals as goal

pub returns : goal.returns
returns c = unordered c.aggregation_depends_on_values.ensures c.downsampling_depends_on_values.ensures
