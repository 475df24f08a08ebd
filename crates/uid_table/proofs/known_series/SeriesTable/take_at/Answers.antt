use Rattle.std.proofs.Common.{subst, sym}
use Rattle.uid_table.specs.KnownSeries.{KeepsSeries}
use Rattle.uid_table.proofs.known_series.SeriesTable.take_at.Goals as goal

pub returns-clause-found : goal.returns-clause-found
returns-clause-found c = λ s keeps. c.in_ok-known.ensures.found s (subst (KeepsSeries s) (sym c.self.view_is) keeps)
