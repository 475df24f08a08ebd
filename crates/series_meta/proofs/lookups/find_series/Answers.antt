use Rattle.std.proofs.Common.{◌≡◌, Bool, false, List, refl, sym, ap, ◌∙◌}
use Rattle.tsd_base.specs.declared.times.TheConstants.{LAST_TIME}
use Rattle.query_text.specs.declared.queries.Filter.{Filter}
use Rattle.metric_scan.specs.declared.fault.AskFault.TheVariants.{OutOfMemory}
use Rattle.metric_scan.specs.Walks.{names_of, row_range}
use Rattle.query_run.proofs.WalkLemmas.{passed_on}
use Rattle.series_meta.specs.LookupTexts.{has_text_test}
use Rattle.series_meta.specs.Lookups.{SeriesAsked, FindSays}
use Rattle.series_meta.proofs.FoundSeries.{lookup_not_asked, lookup_names_failed, lookup_cut, lookup_lost, names_one, can_tell, lookup_told}
use Rattle.series_meta.proofs.lookups.find_series.Goals as goal

plain_is : (listed filters : List Filter) (has : Bool) → listed ≡ filters → has ≡ has_text_test listed → has ≡ false → has_text_test filters ≡ false
plain_is listed filters has is test none = ap has_text_test (sym is) ∙ sym test ∙ none

pub returns-then-has_text_test-clause-says : goal.returns-then-has_text_test-clause-says
returns-then-has_text_test-clause-says g c = lookup_not_asked (record { sub = c.args.sub.now; limit = c.args.limit }) (g.R.Rows.seen c.args.names.now.rows)

pub returns-in_err-rows-clause-says : goal.returns-in_err-rows-clause-says
returns-in_err-rows-clause-says g c =
    let q : SeriesAsked = record { sub = c.args.sub.now; limit = c.args.limit } in
    passed_on (λ r. FindSays q (g.R.Rows.seen c.args.names.now.rows) r (g.R.Rows.seen c.begin.new.names.rows)) c.in_err-rows.field-0.0 c.from_residual.result c.from_residual.ensures.1
    (lookup_names_failed q _ _ c.in_err-rows.field-0.0 c.in_err-rows.ensures.says)

pub count_rows-requires-clause-begun : goal.count_rows-requires-clause-begun
count_rows-requires-clause-begun g c = let a = c.in_ok-rows.ensures.says.1 in (row_range a.id 0 LAST_TIME (g.R.Rows.seen c.begin.new.names.rows), a.walked)

pub returns-in_err-series-clause-says : goal.returns-in_err-series-clause-says
returns-in_err-series-clause-says g c =
    let q : SeriesAsked = record { sub = c.args.sub.now; limit = c.args.limit } in
    let mid = g.R.Rows.seen c.begin.new.names.rows in
    let resolved = c.in_ok-rows.ensures.says.0 in
    let a = c.in_ok-rows.ensures.says.1 in
    passed_on (λ r. FindSays q (g.R.Rows.seen c.args.names.now.rows) r (g.R.Rows.seen c.count_rows.new.names.rows)) c.in_err-series.field-0.0 c.from_residual-in_err-series.result c.from_residual-in_err-series.ensures.1
    (lookup_cut q _ mid _ c.in_ok-rows.rows resolved a (names_of c.count_rows.new.rows) c.in_err-series.field-0.0 (c.in_err-series.ensures.says (row_range a.id 0 LAST_TIME mid) a.walked))

pub all_lines-requires-clause-one : goal.all_lines-requires-clause-one
all_lines-requires-clause-one g c =
    let q : SeriesAsked = record { sub = c.args.sub.now; limit = c.args.limit } in
    let mid = g.R.Rows.seen c.begin.new.names.rows in
    let a = c.in_ok-rows.ensures.says.1 in
    names_one q (g.R.Rows.seen c.args.names.now.rows) mid (g.R.Rows.seen c.count_rows.new.names.rows) c.in_ok-rows.rows c.in_ok-rows.ensures.says.0 a (names_of c.count_rows.new.rows) c.in_ok-series.series (c.in_ok-series.ensures.says (row_range a.id 0 LAST_TIME mid) a.walked) c.in_ok-series.ensures.leaves.possible

pub all_lines-requires-clause-series : goal.all_lines-requires-clause-series
all_lines-requires-clause-series g c =
    let q : SeriesAsked = record { sub = c.args.sub.now; limit = c.args.limit } in
    let mid = g.R.Rows.seen c.begin.new.names.rows in
    let a = c.in_ok-rows.ensures.says.1 in
    can_tell q (g.R.Rows.seen c.args.names.now.rows) mid (g.R.Rows.seen c.count_rows.new.names.rows) c.in_ok-rows.rows c.in_ok-rows.ensures.says.0 a (names_of c.count_rows.new.rows) c.in_ok-series.series (c.in_ok-series.ensures.says (row_range a.id 0 LAST_TIME mid) a.walked) c.widths.result c.widths.ensures

pub returns-in_err-lines-clause-says : goal.returns-in_err-lines-clause-says
returns-in_err-lines-clause-says g c =
    let q : SeriesAsked = record { sub = c.args.sub.now; limit = c.args.limit } in
    let mid = g.R.Rows.seen c.begin.new.names.rows in
    let new = g.R.Rows.seen c.count_rows.new.names.rows in
    let a = c.in_ok-rows.ensures.says.1 in
    passed_on (λ r. FindSays q (g.R.Rows.seen c.args.names.now.rows) r new) OutOfMemory c.from_residual-in_err-lines.result c.from_residual-in_err-lines.ensures.1
    (lookup_lost q (g.R.Rows.seen c.args.names.now.rows) mid new c.in_ok-rows.rows c.in_ok-rows.ensures.says.0 a (names_of c.count_rows.new.rows) c.in_ok-series.series (c.in_ok-series.ensures.says (row_range a.id 0 LAST_TIME mid) a.walked))

pub returns-in_err-first_lines-clause-says : goal.returns-in_err-first_lines-clause-says
returns-in_err-first_lines-clause-says g c =
    let q : SeriesAsked = record { sub = c.args.sub.now; limit = c.args.limit } in
    let mid = g.R.Rows.seen c.begin.new.names.rows in
    let new = g.R.Rows.seen c.count_rows.new.names.rows in
    let a = c.in_ok-rows.ensures.says.1 in
    passed_on (λ r. FindSays q (g.R.Rows.seen c.args.names.now.rows) r new) OutOfMemory c.from_residual-in_err-first_lines.result c.from_residual-in_err-first_lines.ensures.1
    (lookup_lost q (g.R.Rows.seen c.args.names.now.rows) mid new c.in_ok-rows.rows c.in_ok-rows.ensures.says.0 a (names_of c.count_rows.new.rows) c.in_ok-series.series (c.in_ok-series.ensures.says (row_range a.id 0 LAST_TIME mid) a.walked))

pub returns-clause-says : goal.returns-clause-says
returns-clause-says g c =
    let q : SeriesAsked = record { sub = c.args.sub.now; limit = c.args.limit } in
    let mid = g.R.Rows.seen c.begin.new.names.rows in
    let new = g.R.Rows.seen c.count_rows.new.names.rows in
    let a = c.in_ok-rows.ensures.says.1 in
    lookup_told q (g.R.Rows.seen c.args.names.now.rows) mid new c.in_ok-rows.rows c.in_ok-rows.ensures.says.0 a (names_of c.count_rows.new.rows) c.in_ok-series.series (c.in_ok-series.ensures.says (row_range a.id 0 LAST_TIME mid) a.walked) c.scan_is_whole.ensures.whole (plain_is _ _ _ c.list.ensures c.has_text_test.ensures c.if-has_text_test.false) c.in_ok-series.ensures.leaves.possible c.widths.result
    c.widths.ensures c.all_lines.ensures.order c.in_ok-lines.lines.items c.in_ok-lines.ensures.lines c.in_ok-first_lines.field-0.items c.in_ok-first_lines.ensures c.in_ok-first_lines.field-0 refl
