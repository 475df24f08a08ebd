use Rattle.std.proofs.Common.{List, [], ◌∷◌, subst}
use Rattle.std.specs.Prelude.{Ok, Option}
use Rattle.tsd_base.specs.TagList.{Pair}
use Rattle.tsd_base.specs.declared.kinds.Kind.{Kind}
use Rattle.tsd_base.specs.declared.kinds.Kind.TheVariants.{Metric}
use Rattle.cell_model.specs.Layout.{tag_names}
use Rattle.point_import.specs.PutPoints.{Names}
use Rattle.point_import.proofs.AskedNames.{names_fault, names_full, names_then}
use Rattle.point_import.proofs.import_names.name_point.Goals as goal

pub returns-in-Ok-None-clause-names : goal.returns-in-Ok-None-clause-names
returns-in-Ok-None-clause-names g c =
    let one = subst (λ (o : Option Kind). Names c.args.rule.now.patterns (g.R.Rows.seen c.args.names.now.rows) ((Metric, c.args.point.now.metric) ∷ []) (Ok o) (g.R.Rows.seen c.name_one.new.names.rows)) c.in-Ok-None.field-0-is c.in-Ok-None.ensures.names in
    let tags = subst (λ (ts : List Pair). Names c.args.rule.now.patterns (g.R.Rows.seen c.name_one.new.names.rows) (tag_names ts) c.name_tags.result (g.R.Rows.seen c.name_tags.new.names.rows)) c.pairs.ensures.pairs c.name_tags.ensures.names in
    names_then c.args.rule.now.patterns (g.R.Rows.seen c.args.names.now.rows) (g.R.Rows.seen c.name_one.new.names.rows) (g.R.Rows.seen c.name_tags.new.names.rows) ((Metric, c.args.point.now.metric) ∷ []) (tag_names c.args.point.now.tags) c.name_tags.result one tags

pub returns-in-Ok-Some-clause-names : goal.returns-in-Ok-Some-clause-names
returns-in-Ok-Some-clause-names g c =
    let one = subst (λ (o : Option Kind). Names c.args.rule.now.patterns (g.R.Rows.seen c.args.names.now.rows) ((Metric, c.args.point.now.metric) ∷ []) (Ok o) (g.R.Rows.seen c.name_one.new.names.rows)) c.in-Ok-Some.field-0-is c.in-Ok-Some.ensures.names in
    names_full c.args.rule.now.patterns (g.R.Rows.seen c.args.names.now.rows) (g.R.Rows.seen c.name_one.new.names.rows) ((Metric, c.args.point.now.metric) ∷ []) (tag_names c.args.point.now.tags) c.in-Ok-Some.kind one

pub returns-in-Err-clause-names : goal.returns-in-Err-clause-names
returns-in-Err-clause-names g c =
    names_fault c.args.rule.now.patterns (g.R.Rows.seen c.args.names.now.rows) (g.R.Rows.seen c.name_one.new.names.rows) ((Metric, c.args.point.now.metric) ∷ []) (tag_names c.args.point.now.tags) c.in-Err.fault c.in-Err.ensures.names
