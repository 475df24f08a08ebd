use Rattle.std.proofs.Common.{Ok, Err, refl, ap, w64, FitsSigned, rules}
use Rattle.std.proofs.lemmas.Int.{to_z-of_z}
use Rattle.uid_table.specs.declared.known_series.KnownSeries.{KnownSeries}
use Rattle.point_put.specs.StoredTexts.{place_of}
use Rattle.point_put.proofs.TextOutcomes.{known_put, said_as}
use Rattle.uid_table.specs.NamedRows.{NamedRows}
use Rattle.point_put.proofs.text_put.put_known.Goals as goal

pub returns-in-Ok-clause-says : goal.returns-in-Ok-clause-says
returns-in-Ok-clause-says g c adm same =
    let fits : FitsSigned w64 c.args.parts.now.value = search rules in
    known_put adm c.args.text.now c.args.parts.now (g.R.Rows.seen c.args.names.now.rows) (g.R.Rows.seen c.put_next.new.names.rows) (g.R.Rows.seen c.put_next.new.names.rows) c.args.series.value (Ok (place_of c.put_next.new.placed)) refl c.requires.parts c.requires.metric c.requires.tags c.requires.shown
    (said_as adm (g.R.Rows.seen c.args.names.now.rows) (g.R.Rows.seen c.put_next.new.names.rows) c.args.series.value.placed c.deref_mut.result.now.placed c.args.parts.now.time c.args.parts.now.fine c.args.parts.now.value _ (Ok (place_of c.put_next.new.placed))
    (ap (λ (k : KnownSeries). k.placed) c.deref_mut.ensures.value) (to_z-of_z w64 c.args.parts.now.value fits) (c.in-Ok.ensures.says adm same))

pub returns-in-Err-clause-says : goal.returns-in-Err-clause-says
returns-in-Err-clause-says g c adm same =
    let fits : FitsSigned w64 c.args.parts.now.value = search rules in
    known_put adm c.args.text.now c.args.parts.now (g.R.Rows.seen c.args.names.now.rows) (g.R.Rows.seen c.put_next.new.names.rows) (g.R.Rows.seen c.keep_series.new.self.rows) c.args.series.value (Err c.in-Err.fault) (ap (λ (u : NamedRows _). g.R.Rows.seen u.rows) c.keep_series.ensures) c.requires.parts c.requires.metric c.requires.tags c.requires.shown
    (said_as adm (g.R.Rows.seen c.args.names.now.rows) (g.R.Rows.seen c.put_next.new.names.rows) c.args.series.value.placed c.deref_mut.result.now.placed c.args.parts.now.time c.args.parts.now.fine c.args.parts.now.value _ (Err c.in-Err.fault)
    (ap (λ (k : KnownSeries). k.placed) c.deref_mut.ensures.value) (to_z-of_z w64 c.args.parts.now.value fits) (c.in-Err.ensures.says adm same))
