use Rattle.std.proofs.Common.{◌≡◌, List, subst}
use Rattle.std.specs.Prelude.{All, Some}
use Rattle.batch_job.specs.SeriesValues.{SeriesEntry, values_in}
use Rattle.batch_job.proofs.HeldSeries.{each_found}
use Rattle.batch_job.proofs.pending.Gathered.into_series.Goals as goal

pub returns-clause-found : goal.returns-clause-found
returns-clause-found c = subst (λ (es : List SeriesEntry). All (λ e. values_in es e.0 ≡ Some e.1) es) c.self.view_is (each_found c.self.inside.series.entries c.iter.ensures.unique)
