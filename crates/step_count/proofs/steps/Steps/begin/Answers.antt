use Rattle.std.proofs.Common.{ap}
use Rattle.step_count.specs.FirstViews.{name_in}
use Rattle.step_count.proofs.FirstLicences.{starts_named}
use Rattle.step_count.proofs.steps.Steps.begin.Goals as goal

pub of_words-requires-2 : goal.of_words-requires-2
of_words-requires-2 g c = starts_named _ _ _ (ap name_in c.store.ensures.2) c.requires.base
