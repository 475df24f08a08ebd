use Rattle.std.proofs.Common.{ℕ, sym, ap, subst, ◌∙◌}
use Rattle.std.specs.Prelude.{ℤ, Option, Some, Ok}
use Rattle.row_key.specs.declared.widths.Widths.{Widths}
use Rattle.metric_scan.specs.declared.fault.AskFault.TheVariants.{OutOfMemory}
use Rattle.series_meta.specs.declared.meta_answers.Last.{Last}
use Rattle.series_meta.specs.HourWalks.{WalkSays}
use Rattle.series_meta.specs.SeriesRows.{series_id}
use Rattle.series_meta.specs.LatestPoints.{Asking, FoundSays}
use Rattle.series_meta.proofs.NameLooks.{passed_on}
use Rattle.series_meta.proofs.OneLast.{names_failed, walk_refused, walk_none, walk_lost, walk_last}
use Rattle.series_meta.proofs.last_point.find_last.Goals as goal

pub returns-in_err-key-clause-says : goal.returns-in_err-key-clause-says
returns-in_err-key-clause-says g c =
    let q : Asking = record { metric = c.args.metric.now; tags = c.args.tags.now; now = c.args.now; back = c.args.back } in
    passed_on (λ r. FoundSays q (g.R.Rows.seen c.args.names.now.rows) r (g.R.Rows.seen c.series_key.new.names.rows)) c.in_err-key.field-0.0 c.from_residual.result c.from_residual.ensures.1
    (names_failed q _ _ c.in_err-key.field-0.0 c.in_err-key.ensures.says)

pub returns-in_err-point-clause-says : goal.returns-in_err-point-clause-says
returns-in_err-point-clause-says g c =
    let q : Asking = record { metric = c.args.metric.now; tags = c.args.tags.now; now = c.args.now; back = c.args.back } in
    passed_on (λ r. FoundSays q (g.R.Rows.seen c.args.names.now.rows) r (g.R.Rows.seen c.walk.new.names.rows)) c.in_err-point.field-0.0 c.from_residual-in_err-point.result c.from_residual-in_err-point.ensures.1
    (walk_refused q _ _ _ c.in_ok-key.key c.in_err-point.field-0.0 c.walk.new.key c.in_ok-key.ensures.says c.in_err-point.ensures.says)

pub returns-in_default-clause-says : goal.returns-in_default-clause-says
returns-in_default-clause-says g c =
    let q : Asking = record { metric = c.args.metric.now; tags = c.args.tags.now; now = c.args.now; back = c.args.back } in
    let mid = g.R.Rows.seen c.series_key.new.names.rows in
    let new = g.R.Rows.seen c.walk.new.names.rows in
    walk_none q _ mid new c.in_ok-key.key c.walk.new.key c.in_ok-key.ensures.says (subst (λ (o : Option (ℕ × ℤ)). WalkSays c.in_ok-key.key c.args.now c.args.back mid (Ok o) new c.walk.new.key) c.in_default.is c.in_ok-point.ensures.says)

pub returns-in_err-tsuid-clause-says : goal.returns-in_err-tsuid-clause-says
returns-in_err-tsuid-clause-says g c =
    let q : Asking = record { metric = c.args.metric.now; tags = c.args.tags.now; now = c.args.now; back = c.args.back } in
    let mid = g.R.Rows.seen c.series_key.new.names.rows in
    let new = g.R.Rows.seen c.walk.new.names.rows in
    passed_on (λ r. FoundSays q (g.R.Rows.seen c.args.names.now.rows) r new) OutOfMemory c.from_residual-in_err-tsuid.result c.from_residual-in_err-tsuid.ensures.1
    (walk_lost q _ mid new c.in_ok-key.key c.walk.new.key c.in-Some.point c.in_ok-key.ensures.says (subst (λ (o : Option (ℕ × ℤ)). WalkSays c.in_ok-key.key c.args.now c.args.back mid (Ok o) new c.walk.new.key) c.in-Some.is c.in_ok-point.ensures.says))

pub returns-clause-says : goal.returns-clause-says
returns-clause-says g c =
    let q : Asking = record { metric = c.args.metric.now; tags = c.args.tags.now; now = c.args.now; back = c.args.back } in
    let old = g.R.Rows.seen c.args.names.now.rows in
    let mid = g.R.Rows.seen c.series_key.new.names.rows in
    let new = g.R.Rows.seen c.walk.new.names.rows in
    subst (λ (l : Last). FoundSays q old (Ok (Some l)) new) (sym c.named.ensures)
    (walk_last q old mid new c.in_ok-key.key c.walk.new.key c.in-Some.point.0 c.in-Some.point.1 c.in_ok-tsuid.tsuid c.in_ok-key.ensures.says
    (subst (λ (o : Option (ℕ × ℤ)). WalkSays c.in_ok-key.key c.args.now c.args.back mid (Ok o) new c.walk.new.key) c.in-Some.is c.in_ok-point.ensures.says) (c.in_ok-tsuid.ensures ∙ ap (λ (w : Widths). series_id w c.walk.new.key) c.widths.ensures))
