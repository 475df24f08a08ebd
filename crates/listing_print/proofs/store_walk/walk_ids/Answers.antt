use Rattle.std.proofs.Common.{[], sym, ap, subst, ◌∙◌, arith}
use Rattle.row_key.specs.declared.widths.Widths.{Widths}
use Rattle.row_key.specs.declared.tables.Table.TheVariants.{Names}
use Rattle.listing_print.specs.IdsLeft.{AreIds, least_of, passed_all}
use Rattle.listing_print.specs.StoreRows.{row_at}
use Rattle.listing_print.proofs.GivenCells.{on_err}
use Rattle.listing_print.proofs.LeastIds.{ids_fit}
use Rattle.listing_print.proofs.RangeSteps.{ids_end, ids_front, ids_next, ids_start}
use Rattle.listing_print.proofs.Steps.{rows_some}
use Rattle.listing_print.proofs.store_walk.walk_ids.Goals as goal

pub loop-init : goal.loop-init
loop-init g c = record { taken = ids_start g.met.T.LineTaker.joins (g.B.Body.content c.args.body.now) c.args.all _ c.requires.all; later = omega arith }

pub least_of-requires : goal.least_of-requires
least_of-requires g c = subst (λ (w : Widths). AreIds w c.loop.ids) (sym c.widths-widths.ensures) (ids_fit (g.B.Body.content c.args.body.now) c.requires.sound c.loop.ids c.loop.invariant.taken.bound c.loop.invariant.taken.done)

pub passed_all-ids-requires : goal.passed_all-ids-requires
passed_all-ids-requires g c = subst (λ (w : Widths). AreIds w c.loop.ids) (sym c.widths-widths.ensures) (ids_fit (g.B.Body.content c.args.body.now) c.requires.sound c.loop.ids c.loop.invariant.taken.bound c.loop.invariant.taken.done)

pub returns-in_default-clause-ok : goal.returns-in_default-clause-ok
returns-in_default-clause-ok g c =
    ids_end g.met.T.LineTaker.joins (g.B.Body.content c.args.body.now) c.requires.sound c.loop.ids _ _ (ap (λ (w : Widths). least_of w c.loop.ids) (sym c.widths-widths.ensures) ∙ sym c.least_of.ensures ∙ c.in_default.is) c.loop.invariant.taken

pub returns-in_err-cells-clause-err : goal.returns-in_err-cells-clause-err
returns-in_err-cells-clause-err g c =
    let so_far = c.loop.invariant.taken in
    on_err c.from_residual.result _ (rows_some g.met.T.LineTaker.joins (g.B.Body.content c.args.body.now) (row_at Names []) (row_at Names so_far.bound) _ _ so_far.taken)

pub returns-in_err-walk_row-clause-err : goal.returns-in_err-walk_row-clause-err
returns-in_err-walk_row-clause-err g c =
    on_err c.from_residual-in_err-walk_row.result _
    (ids_front g.met.T.LineTaker.joins (g.B.Body.content c.args.body.now) c.requires.sound c.loop.ids c.in-Some.bytes c.in_ok-cells.cells _ _ _
    (ap (λ (w : Widths). least_of w c.loop.ids) (sym c.widths-widths.ensures) ∙ sym c.least_of.ensures ∙ c.in-Some.is) c.in_ok-cells.ensures c.loop.invariant.taken c.in_err-walk_row.ensures.err)

pub loop-preserved : goal.loop-preserved
loop-preserved g c =
    record {
      taken = ids_next g.met.T.LineTaker.joins (g.B.Body.content c.args.body.now) c.requires.sound c.loop.ids c.passed_all-ids.result c.in-Some.bytes c.in_ok-cells.cells _ _ _
          (ap (λ (w : Widths). least_of w c.loop.ids) (sym c.widths-widths.ensures) ∙ sym c.least_of.ensures ∙ c.in-Some.is) (c.passed_all-ids.ensures ∙ (λ i. passed_all (c.widths-widths.ensures i) c.loop.ids (c.list.ensures i))) c.in_ok-cells.ensures c.loop.invariant.taken c.in_ok-walk_row.ensures.ok;
      later = let a = c.loop.invariant.later in let b = c.in_ok-walk_row.ensures.later in omega (arith, a, b);
    }

pub returns-clause-err : goal.returns-clause-err
returns-clause-err g c =
    let so_far = c.loop.invariant.taken in
    rows_some g.met.T.LineTaker.joins (g.B.Body.content c.args.body.now) (row_at Names []) (row_at Names so_far.bound) _ _ so_far.taken
