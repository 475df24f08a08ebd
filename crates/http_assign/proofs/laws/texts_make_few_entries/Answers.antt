use Rattle.http_assign.proofs.TextEntries.{few_entries}
use Rattle.http_assign.proofs.laws.texts_make_few_entries.Goals as goal

pub returns : goal.returns
returns c = few_entries
