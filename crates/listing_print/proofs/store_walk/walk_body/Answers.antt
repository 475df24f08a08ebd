use Rattle.std.proofs.Common.{[]}
use Rattle.row_key.specs.declared.tables.Table.TheVariants.{Ids, Names, Points}
use Rattle.listing_print.specs.MetricRows.{metric_end}
use Rattle.listing_print.specs.StoreRows.{TookRows, row_at}
use Rattle.listing_print.proofs.GivenCells.{on_err}
use Rattle.listing_print.proofs.RangeSteps.{err_map, ok_map}
use Rattle.listing_print.proofs.Steps.{rows_then, some_then, whole_front, whole_taken}
use Rattle.listing_print.proofs.store_walk.walk_body.Goals as goal

pub returns-in_err-walk_names-clause-err : goal.returns-in_err-walk_names-clause-err
returns-in_err-walk_names-clause-err g c =
    on_err c.from_residual.result _ (whole_front g.met.T.LineTaker.joins (g.B.Body.content c.args.body.now) _ _ c.in_err-walk_names.ensures.err)

pub returns-in_err-walk_ids-clause-err : goal.returns-in_err-walk_ids-clause-err
returns-in_err-walk_ids-clause-err g c =
    let k = g.K.Sink in
    let took = g.T.LineTaker.took in
    let laws = g.met.T.LineTaker.joins in
    let s = g.B.Body.content c.args.body.now in
    let names : TookRows took s (row_at Ids []) (row_at Names []) (k.held c.args.sink.now, c.args.taker.now) (k.held c.walk_names.new.sink, c.walk_names.new.taker) = c.in_ok-walk_names.ensures.ok in
    on_err c.from_residual-in_err-walk_ids.result _ (whole_front laws s _ _ (some_then laws s (row_at Ids []) (row_at Names []) _ _ _ names c.in_err-walk_ids.ensures.err))

pub returns-clause-ok : goal.returns-clause-ok
returns-clause-ok g c =
    let k = g.K.Sink in
    let took = g.T.LineTaker.took in
    let laws = g.met.T.LineTaker.joins in
    let s = g.B.Body.content c.args.body.now in
    let names : TookRows took s (row_at Ids []) (row_at Names []) (k.held c.args.sink.now, c.args.taker.now) (k.held c.walk_names.new.sink, c.walk_names.new.taker) = c.in_ok-walk_names.ensures.ok in
    let ids : TookRows took s (row_at Ids []) (row_at Points (metric_end s.widths 0)) (k.held c.args.sink.now, c.args.taker.now) (k.held c.walk_ids.new.sink, c.walk_ids.new.taker) =
    rows_then laws s (row_at Ids []) (row_at Names []) (row_at Points (metric_end s.widths 0)) _ _ _ names c.in_ok-walk_ids.ensures.ok in
    ok_map c.walk_points.result _ _ (whole_taken laws s (row_at Points (metric_end s.widths 0)) _ _ _ ids) c.walk_points.ensures.ok

pub returns-clause-err : goal.returns-clause-err
returns-clause-err g c =
    let k = g.K.Sink in
    let took = g.T.LineTaker.took in
    let laws = g.met.T.LineTaker.joins in
    let s = g.B.Body.content c.args.body.now in
    let names : TookRows took s (row_at Ids []) (row_at Names []) (k.held c.args.sink.now, c.args.taker.now) (k.held c.walk_names.new.sink, c.walk_names.new.taker) = c.in_ok-walk_names.ensures.ok in
    let ids : TookRows took s (row_at Ids []) (row_at Points (metric_end s.widths 0)) (k.held c.args.sink.now, c.args.taker.now) (k.held c.walk_ids.new.sink, c.walk_ids.new.taker) =
    rows_then laws s (row_at Ids []) (row_at Names []) (row_at Points (metric_end s.widths 0)) _ _ _ names c.in_ok-walk_ids.ensures.ok in
    err_map c.walk_points.result _ _ (λ some. whole_front laws s _ _ (some_then laws s (row_at Ids []) (row_at Points (metric_end s.widths 0)) _ _ _ ids some)) c.walk_points.ensures.err
