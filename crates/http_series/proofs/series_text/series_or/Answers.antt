use Rattle.std.proofs.Common.{ap, subst, Err}
use Rattle.series_meta.specs.LookupTexts.{GivesSeries}
use Rattle.series_meta.specs.declared.meta_faults.SeriesFault.{SeriesFault}
use Rattle.http_series.specs.ArgumentReading.{or_fault}
use Rattle.http_series.specs.SeriesTexts.{series_of}
use Rattle.http_series.proofs.FaultLemmas.{fails_so}
use Rattle.http_series.proofs.SeriesLemmas.{series_is, series_none}
use Rattle.http_series.proofs.series_text.series_or.Goals as goal

pub returns-in-Ok : goal.returns-in-Ok
returns-in-Ok c = ap (or_fault c.args.fault) (series_is c.args.text.now c.in-Ok.sub c.in-Ok.ensures)

pub returns-in-Err-BadSeries : goal.returns-in-Err-BadSeries
returns-in-Err-BadSeries c = fails_so c.args.fault (or_fault c.args.fault (series_of c.args.text.now)) (ap (or_fault c.args.fault) (series_none c.args.text.now (subst (λ (bad : SeriesFault). GivesSeries (Err bad) c.args.text.now) c.in-Err-BadSeries.field-0-is c.in-Err-BadSeries.ensures)))
