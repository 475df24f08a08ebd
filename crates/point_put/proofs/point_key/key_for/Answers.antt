use Rattle.std.proofs.Common.{ℕ, List, [], ◌∷◌, subst}
use Rattle.std.specs.Prelude.{Ok, Err}
use Rattle.arrayvec.specs.ArrayVec.{ArrayVec}
use Rattle.tsd_base.specs.declared.kinds.Kind.TheVariants.{Metric}
use Rattle.tsd_base.specs.TagList.{Pair}
use Rattle.tsd_base.specs.Points.{data_point}
use Rattle.row_key.specs.declared.keys.RowKey.{RowKey}
use Rattle.cell_model.specs.Layout.{names_of, tag_names}
use Rattle.point_put.specs.Admissions.{admission}
use Rattle.point_put.specs.ShownIds.{NamesAsked, PairsShown}
use Rattle.point_put.proofs.Asking.{asked_then, asked_failed, asked_ok_as, asked_err_as, passed_on}
use Rattle.point_put.proofs.Keying.{key_shown}
use Rattle.point_put.proofs.point_key.key_for.Goals as goal

pub returns-in_err-metric-clause-asked : goal.returns-in_err-metric-clause-asked
returns-in_err-metric-clause-asked g c =
    let m = (Metric, c.args.point.now.metric) ∷ [] in
    let failed = asked_failed {U = RowKey} (admission c.args.config.now c.args.rule.now.patterns) m (tag_names c.args.point.now.tags) _ _ c.in_err-metric.field-0.0 c.in_err-metric.ensures.asked in
    passed_on (λ r. NamesAsked {T = RowKey} (admission c.args.config.now c.args.rule.now.patterns) (names_of (data_point c.args.point.now)) (g.R.Rows.seen c.args.names.now.rows) r (g.R.Rows.seen c.id_for.new.names.rows)) c.in_err-metric.field-0.0 c.from_residual.result c.from_residual.ensures.1 failed

pub returns-in_err-pairs-clause-asked : goal.returns-in_err-pairs-clause-asked
returns-in_err-pairs-clause-asked g c =
    let m = (Metric, c.args.point.now.metric) ∷ [] in
    let asked = subst (λ (ts : List Pair). NamesAsked {T = ArrayVec (ℕ × ℕ)} (admission c.args.config.now c.args.rule.now.patterns) (tag_names ts) (g.R.Rows.seen c.id_for.new.names.rows) (Err c.in_err-pairs.field-0.0) (g.R.Rows.seen c.pairs_for.new.names.rows)) c.pairs.ensures.pairs c.in_err-pairs.ensures.asked in
    let both = asked_then (admission c.args.config.now c.args.rule.now.patterns) m (tag_names c.args.point.now.tags) _ _ _ c.in_ok-metric.metric (Err c.in_err-pairs.field-0.0) c.in_ok-metric.ensures.asked asked in
    passed_on (λ r. NamesAsked {T = RowKey} (admission c.args.config.now c.args.rule.now.patterns) (names_of (data_point c.args.point.now)) (g.R.Rows.seen c.args.names.now.rows) r (g.R.Rows.seen c.pairs_for.new.names.rows)) c.in_err-pairs.field-0.0 c.from_residual-in_err-pairs.result c.from_residual-in_err-pairs.ensures.1
    (asked_err_as _ _ _ _ _ both)

pub returns-clause-asked : goal.returns-clause-asked
returns-clause-asked g c =
    let m = (Metric, c.args.point.now.metric) ∷ [] in
    let asked = subst (λ (ts : List Pair). NamesAsked {T = ArrayVec (ℕ × ℕ)} (admission c.args.config.now c.args.rule.now.patterns) (tag_names ts) (g.R.Rows.seen c.id_for.new.names.rows) (Ok c.in_ok-pairs.pairs) (g.R.Rows.seen c.pairs_for.new.names.rows)) c.pairs.ensures.pairs c.in_ok-pairs.ensures.asked in
    asked_ok_as _ _ _ _ _ _ (asked_then (admission c.args.config.now c.args.rule.now.patterns) m (tag_names c.args.point.now.tags) _ _ _ c.in_ok-metric.metric (Ok c.in_ok-pairs.pairs) c.in_ok-metric.ensures.asked asked)

pub returns-clause-key : goal.returns-clause-key
returns-clause-key g c =
    let pairs = subst (λ (ts : List Pair). PairsShown (g.R.Rows.seen c.pairs_for.new.names.rows) ts c.in_ok-pairs.pairs.items) c.pairs.ensures.pairs c.in_ok-pairs.ensures.pairs in
    key_shown _ _ (data_point c.args.point.now) (record { metric = c.in_ok-metric.metric; base = c.base_of.result; pairs = c.in_ok-pairs.pairs }) c.in_ok-pairs.ensures.asked.made.since.extends c.in_ok-metric.ensures.id c.base_of.ensures c.args.point.now.timed c.pairs.ensures.are_tags pairs
