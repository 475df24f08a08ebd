use Rattle.std.proofs.Common.{Ok, Err, refl, ap, w64, FitsSigned, rules}
use Rattle.std.proofs.lemmas.Int.{to_z-of_z}
use Rattle.tsd_base.specs.Points.{data_point}
use Rattle.uid_table.specs.declared.known_series.KnownSeries.{KnownSeries}
use Rattle.point_put.specs.StoredTexts.{place_of}
use Rattle.point_put.specs.PutFaults.{put_fault}
use Rattle.point_put.specs.TextPuts.{point_at}
use Rattle.point_import.proofs.AskedPuts.{err_said, known_failed, known_put, rows_fault, series_said}
use Rattle.uid_table.specs.NamedRows.{NamedRows}
use Rattle.point_import.proofs.import_point.import_known.Goals as goal

pub returns-in-Ok-clause-puts : goal.returns-in-Ok-clause-puts
returns-in-Ok-clause-puts g c =
    let old = g.R.Rows.seen c.args.names.now.rows in
    let mid = g.R.Rows.seen c.put_next-put.new.names.rows in
    let fits : FitsSigned w64 c.args.parts.now.value = search rules in
    known_put c.args.rule.now.patterns c.args.text.now c.args.parts.now old mid (g.R.Rows.seen c.keep_series.new.self.rows) c.args.series.value (ap (λ (u : NamedRows _). g.R.Rows.seen u.rows) c.keep_series.ensures) c.requires.parts c.requires.metric c.requires.tags c.requires.shown (place_of c.put_next-put.new.placed)
    (series_said old mid c.args.series.value.placed c.deref_mut.result.now.placed c.args.parts.now.time c.args.parts.now.fine c.args.parts.now.value _ (Ok (place_of c.put_next-put.new.placed)) (ap (λ (k : KnownSeries). k.placed) c.deref_mut.ensures.value) (to_z-of_z w64 c.args.parts.now.value fits) c.in-Ok.ensures.says)

pub fault_of_rows-requires : goal.fault_of_rows-requires
fault_of_rows-requires g c =
    let old = g.R.Rows.seen c.args.names.now.rows in
    let mid = g.R.Rows.seen c.put_next-put.new.names.rows in
    let fits : FitsSigned w64 c.args.parts.now.value = search rules in
    rows_fault (point_at (data_point c.args.series.value.placed.point) c.args.parts.now.time c.args.parts.now.fine c.args.parts.now.value) old mid c.requires.shown.placed.possible c.in-Err.fault
    (series_said old mid c.args.series.value.placed c.deref_mut.result.now.placed c.args.parts.now.time c.args.parts.now.fine c.args.parts.now.value _ (Err c.in-Err.fault) (ap (λ (k : KnownSeries). k.placed) c.deref_mut.ensures.value) (to_z-of_z w64 c.args.parts.now.value fits)
    (err_said _ old mid (place_of c.put_next-put.new.placed) c.put_next-put.result c.in-Err.fault c.in-Err.fault c.in-Err.is refl c.put_next-put.ensures.says))

pub returns-in-Err-clause-puts : goal.returns-in-Err-clause-puts
returns-in-Err-clause-puts g c =
    let old = g.R.Rows.seen c.args.names.now.rows in
    let mid = g.R.Rows.seen c.put_next-put.new.names.rows in
    let fits : FitsSigned w64 c.args.parts.now.value = search rules in
    known_failed c.args.rule.now.patterns c.args.text.now c.args.parts.now old mid (g.R.Rows.seen c.keep_series.new.self.rows) c.args.series.value (ap (λ (u : NamedRows _). g.R.Rows.seen u.rows) c.keep_series.ensures) c.requires.parts c.requires.metric c.requires.tags c.requires.shown c.fault_of_rows.result
    (series_said old mid c.args.series.value.placed c.deref_mut.result.now.placed c.args.parts.now.time c.args.parts.now.fine c.args.parts.now.value _ (Err (put_fault c.fault_of_rows.result)) (ap (λ (k : KnownSeries). k.placed) c.deref_mut.ensures.value) (to_z-of_z w64 c.args.parts.now.value fits)
    (err_said _ old mid (place_of c.put_next-put.new.placed) c.put_next-put.result c.in-Err.fault (put_fault c.fault_of_rows.result) c.in-Err.is c.fault_of_rows.ensures c.put_next-put.ensures.says))
