use Rattle.std.proofs.Common.{[], ◌∷◌, refl}
use Rattle.row_key.specs.declared.tables.Table.TheVariants.{Ids, Names}
use Rattle.listing_print.specs.StoreRows.{TookRows, row_at}
use Rattle.listing_print.proofs.GivenCells.{on_err}
use Rattle.listing_print.proofs.SoundRows.{behind_names}
use Rattle.listing_print.proofs.Steps.{rows_over, rows_then, some_then}
use Rattle.listing_print.proofs.store_walk.walk_names.Goals as goal

pub returns-in_err-walk_range-clause-err : goal.returns-in_err-walk_range-clause-err
returns-in_err-walk_range-clause-err g c =
    let k = g.K.Sink in
    let took = g.T.LineTaker.took in
    let laws = g.met.T.LineTaker.joins in
    let s = g.B.Body.content c.args.body.now in
    let so_far_1 : TookRows took s (row_at Ids []) (row_at Ids (1 ∷ [])) (k.held c.args.sink.now, c.args.taker.now) (k.held c.walk_counters.new.sink, c.walk_counters.new.taker) = c.in_ok-walk_counters.ensures.ok in
    on_err c.from_residual-in_err-walk_range.result _ (some_then laws s (row_at Ids []) (row_at Ids (1 ∷ [])) _ _ _ so_far_1 c.in_err-walk_range.ensures.err)

pub returns-in_err-walk_range-2-clause-err : goal.returns-in_err-walk_range-2-clause-err
returns-in_err-walk_range-2-clause-err g c =
    let k = g.K.Sink in
    let took = g.T.LineTaker.took in
    let laws = g.met.T.LineTaker.joins in
    let s = g.B.Body.content c.args.body.now in
    let so_far_1 : TookRows took s (row_at Ids []) (row_at Ids (1 ∷ [])) (k.held c.args.sink.now, c.args.taker.now) (k.held c.walk_counters.new.sink, c.walk_counters.new.taker) = c.in_ok-walk_counters.ensures.ok in
    let so_far_2 : TookRows took s (row_at Ids []) (row_at Ids (65 ∷ [])) (k.held c.args.sink.now, c.args.taker.now) (k.held c.walk_range.new.sink, c.walk_range.new.taker) =
    rows_then laws s (row_at Ids []) (row_at Ids (1 ∷ [])) (row_at Ids (65 ∷ [])) (k.held c.args.sink.now, c.args.taker.now) (k.held c.walk_counters.new.sink, c.walk_counters.new.taker) (k.held c.walk_range.new.sink, c.walk_range.new.taker) so_far_1 c.in_ok-walk_range.ensures.ok in
    on_err c.from_residual-in_err-walk_range-2.result _ (some_then laws s (row_at Ids []) (row_at Ids (65 ∷ [])) _ _ _ so_far_2 c.in_err-walk_range-2.ensures.err)

pub returns-in_err-walk_range-3-clause-err : goal.returns-in_err-walk_range-3-clause-err
returns-in_err-walk_range-3-clause-err g c =
    let k = g.K.Sink in
    let took = g.T.LineTaker.took in
    let laws = g.met.T.LineTaker.joins in
    let s = g.B.Body.content c.args.body.now in
    let so_far_1 : TookRows took s (row_at Ids []) (row_at Ids (1 ∷ [])) (k.held c.args.sink.now, c.args.taker.now) (k.held c.walk_counters.new.sink, c.walk_counters.new.taker) = c.in_ok-walk_counters.ensures.ok in
    let so_far_2 : TookRows took s (row_at Ids []) (row_at Ids (65 ∷ [])) (k.held c.args.sink.now, c.args.taker.now) (k.held c.walk_range.new.sink, c.walk_range.new.taker) =
    rows_then laws s (row_at Ids []) (row_at Ids (1 ∷ [])) (row_at Ids (65 ∷ [])) (k.held c.args.sink.now, c.args.taker.now) (k.held c.walk_counters.new.sink, c.walk_counters.new.taker) (k.held c.walk_range.new.sink, c.walk_range.new.taker) so_far_1 c.in_ok-walk_range.ensures.ok in
    let so_far_3 : TookRows took s (row_at Ids []) (row_at Ids (97 ∷ [])) (k.held c.args.sink.now, c.args.taker.now) (k.held c.walk_range-2.new.sink, c.walk_range-2.new.taker) =
    rows_then laws s (row_at Ids []) (row_at Ids (65 ∷ [])) (row_at Ids (97 ∷ [])) (k.held c.args.sink.now, c.args.taker.now) (k.held c.walk_range.new.sink, c.walk_range.new.taker) (k.held c.walk_range-2.new.sink, c.walk_range-2.new.taker) so_far_2 c.in_ok-walk_range-2.ensures.ok in
    on_err c.from_residual-in_err-walk_range-3.result _ (some_then laws s (row_at Ids []) (row_at Ids (97 ∷ [])) _ _ _ so_far_3 c.in_err-walk_range-3.ensures.err)

pub returns-in_err-walk_range-4-clause-err : goal.returns-in_err-walk_range-4-clause-err
returns-in_err-walk_range-4-clause-err g c =
    let k = g.K.Sink in
    let took = g.T.LineTaker.took in
    let laws = g.met.T.LineTaker.joins in
    let s = g.B.Body.content c.args.body.now in
    let so_far_1 : TookRows took s (row_at Ids []) (row_at Ids (1 ∷ [])) (k.held c.args.sink.now, c.args.taker.now) (k.held c.walk_counters.new.sink, c.walk_counters.new.taker) = c.in_ok-walk_counters.ensures.ok in
    let so_far_2 : TookRows took s (row_at Ids []) (row_at Ids (65 ∷ [])) (k.held c.args.sink.now, c.args.taker.now) (k.held c.walk_range.new.sink, c.walk_range.new.taker) =
    rows_then laws s (row_at Ids []) (row_at Ids (1 ∷ [])) (row_at Ids (65 ∷ [])) (k.held c.args.sink.now, c.args.taker.now) (k.held c.walk_counters.new.sink, c.walk_counters.new.taker) (k.held c.walk_range.new.sink, c.walk_range.new.taker) so_far_1 c.in_ok-walk_range.ensures.ok in
    let so_far_3 : TookRows took s (row_at Ids []) (row_at Ids (97 ∷ [])) (k.held c.args.sink.now, c.args.taker.now) (k.held c.walk_range-2.new.sink, c.walk_range-2.new.taker) =
    rows_then laws s (row_at Ids []) (row_at Ids (65 ∷ [])) (row_at Ids (97 ∷ [])) (k.held c.args.sink.now, c.args.taker.now) (k.held c.walk_range.new.sink, c.walk_range.new.taker) (k.held c.walk_range-2.new.sink, c.walk_range-2.new.taker) so_far_2 c.in_ok-walk_range-2.ensures.ok in
    let so_far_4 : TookRows took s (row_at Ids []) (row_at Ids (110 ∷ [])) (k.held c.args.sink.now, c.args.taker.now) (k.held c.walk_range-3.new.sink, c.walk_range-3.new.taker) =
    rows_then laws s (row_at Ids []) (row_at Ids (97 ∷ [])) (row_at Ids (110 ∷ [])) (k.held c.args.sink.now, c.args.taker.now) (k.held c.walk_range-2.new.sink, c.walk_range-2.new.taker) (k.held c.walk_range-3.new.sink, c.walk_range-3.new.taker) so_far_3 c.in_ok-walk_range-3.ensures.ok in
    on_err c.from_residual-in_err-walk_range-4.result _ (some_then laws s (row_at Ids []) (row_at Ids (110 ∷ [])) _ _ _ so_far_4 c.in_err-walk_range-4.ensures.err)

pub returns-clause-ok : goal.returns-clause-ok
returns-clause-ok g c =
    let k = g.K.Sink in
    let took = g.T.LineTaker.took in
    let laws = g.met.T.LineTaker.joins in
    let s = g.B.Body.content c.args.body.now in
    let so_far_1 : TookRows took s (row_at Ids []) (row_at Ids (1 ∷ [])) (k.held c.args.sink.now, c.args.taker.now) (k.held c.walk_counters.new.sink, c.walk_counters.new.taker) = c.in_ok-walk_counters.ensures.ok in
    let so_far_2 : TookRows took s (row_at Ids []) (row_at Ids (65 ∷ [])) (k.held c.args.sink.now, c.args.taker.now) (k.held c.walk_range.new.sink, c.walk_range.new.taker) =
    rows_then laws s (row_at Ids []) (row_at Ids (1 ∷ [])) (row_at Ids (65 ∷ [])) (k.held c.args.sink.now, c.args.taker.now) (k.held c.walk_counters.new.sink, c.walk_counters.new.taker) (k.held c.walk_range.new.sink, c.walk_range.new.taker) so_far_1 c.in_ok-walk_range.ensures.ok in
    let so_far_3 : TookRows took s (row_at Ids []) (row_at Ids (97 ∷ [])) (k.held c.args.sink.now, c.args.taker.now) (k.held c.walk_range-2.new.sink, c.walk_range-2.new.taker) =
    rows_then laws s (row_at Ids []) (row_at Ids (65 ∷ [])) (row_at Ids (97 ∷ [])) (k.held c.args.sink.now, c.args.taker.now) (k.held c.walk_range.new.sink, c.walk_range.new.taker) (k.held c.walk_range-2.new.sink, c.walk_range-2.new.taker) so_far_2 c.in_ok-walk_range-2.ensures.ok in
    let so_far_4 : TookRows took s (row_at Ids []) (row_at Ids (110 ∷ [])) (k.held c.args.sink.now, c.args.taker.now) (k.held c.walk_range-3.new.sink, c.walk_range-3.new.taker) =
    rows_then laws s (row_at Ids []) (row_at Ids (97 ∷ [])) (row_at Ids (110 ∷ [])) (k.held c.args.sink.now, c.args.taker.now) (k.held c.walk_range-2.new.sink, c.walk_range-2.new.taker) (k.held c.walk_range-3.new.sink, c.walk_range-3.new.taker) so_far_3 c.in_ok-walk_range-3.ensures.ok in
    let so_far_5 : TookRows took s (row_at Ids []) (row_at Ids (123 ∷ [])) (k.held c.args.sink.now, c.args.taker.now) (k.held c.walk_range-4.new.sink, c.walk_range-4.new.taker) =
    rows_then laws s (row_at Ids []) (row_at Ids (110 ∷ [])) (row_at Ids (123 ∷ [])) (k.held c.args.sink.now, c.args.taker.now) (k.held c.walk_range-3.new.sink, c.walk_range-3.new.taker) (k.held c.walk_range-4.new.sink, c.walk_range-4.new.taker) so_far_4 c.in_ok-walk_range-4.ensures.ok in
    rows_over laws s (row_at Ids []) (row_at Ids (123 ∷ [])) (row_at Names []) _ _ so_far_5 refl (behind_names s c.requires.sound)
