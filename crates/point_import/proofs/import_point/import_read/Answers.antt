use Rattle.std.proofs.Common.{subst}
use Rattle.std.specs.Prelude.{Ok, Option}
use Rattle.tsd_base.specs.Points.{data_point}
use Rattle.tsd_base.specs.declared.kinds.Kind.{Kind}
use Rattle.cell_model.specs.Layout.{names_of}
use Rattle.point_import.specs.PutPoints.{Names}
use Rattle.point_import.proofs.AskedPuts.{put_behind, put_failed, put_full}
use Rattle.point_import.proofs.import_point.import_read.Goals as goal

pub returns-in-Ok-None-clause-puts : goal.returns-in-Ok-None-clause-puts
returns-in-Ok-None-clause-puts g c =
    let named = subst (λ (o : Option Kind). Names c.args.rule.now.patterns (g.R.Rows.seen c.args.names.now.rows) (names_of (data_point c.args.point.now)) (Ok o) (g.R.Rows.seen c.name_point.new.names.rows)) c.in-Ok-None.field-0-is c.in-Ok-None.ensures.names in
    put_behind c.args.rule.now.patterns (data_point c.args.point.now) (g.R.Rows.seen c.args.names.now.rows) (g.R.Rows.seen c.name_point.new.names.rows) (g.R.Rows.seen c.put_named.new.names.rows) named c.put_named.result c.put_named.ensures.says

pub returns-in-Ok-Some-clause-puts : goal.returns-in-Ok-Some-clause-puts
returns-in-Ok-Some-clause-puts g c =
    let named = subst (λ (o : Option Kind). Names c.args.rule.now.patterns (g.R.Rows.seen c.args.names.now.rows) (names_of (data_point c.args.point.now)) (Ok o) (g.R.Rows.seen c.name_point.new.names.rows)) c.in-Ok-Some.field-0-is c.in-Ok-Some.ensures.names in
    put_full c.args.rule.now.patterns (data_point c.args.point.now) (g.R.Rows.seen c.args.names.now.rows) (g.R.Rows.seen c.name_point.new.names.rows) c.in-Ok-Some.kind named

pub returns-in-Err-clause-puts : goal.returns-in-Err-clause-puts
returns-in-Err-clause-puts g c = put_failed c.args.rule.now.patterns (data_point c.args.point.now) (g.R.Rows.seen c.args.names.now.rows) (g.R.Rows.seen c.name_point.new.names.rows) c.in-Err.fault c.in-Err.ensures.names
