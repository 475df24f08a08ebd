use Rattle.std.proofs.Common.{◌≡◌, refl, sym, ap, ◌∙◌, arith}
use Rattle.std.specs.Prelude.{Some}
use Rattle.list_lemmas.proofs.OrderedBytes.{behind}
use Rattle.cell_model.specs.Store.{next_row_of}
use Rattle.listing_print.specs.StoreRows.{row_at}
use Rattle.listing_print.proofs.GivenCells.{on_err}
use Rattle.listing_print.proofs.RangeSteps.{range_end, range_forward, range_front, range_left, range_on}
use Rattle.listing_print.proofs.Steps.{rows_begin, rows_some}
use Rattle.listing_print.proofs.range_walk.walk_until.Goals as goal

pub loop-init : goal.loop-init
loop-init g c = record {
  taken = rows_begin g.met.T.LineTaker.joins (g.B.Body.content c.args.body.now) (row_at c.args.table c.args.from) _;
  range = c.requires.range;
  forward = c.requires.forward;
  later = omega arith;
}

pub returns-in_err-found-clause-err : goal.returns-in_err-found-clause-err
returns-in_err-found-clause-err g c =
    on_err c.from_residual.result _ (rows_some g.met.T.LineTaker.joins (g.B.Body.content c.args.body.now) (row_at c.args.table c.args.from) (row_at c.args.table c.loop.next) _ _ c.loop.invariant.taken)

pub returns-in_default-clause-ok : goal.returns-in_default-clause-ok
returns-in_default-clause-ok g c =
    range_end g.met.T.LineTaker.joins (g.B.Body.content c.args.body.now) c.args.table c.args.from c.loop.next c.args.to.now _ _ (sym c.in_ok-found.ensures ∙ c.in_default.is) c.loop.invariant.forward c.loop.invariant.taken

pub returns-in_err-walk_row-clause-err : goal.returns-in_err-walk_row-clause-err
returns-in_err-walk_row-clause-err g c =
    on_err c.from_residual-in_err-walk_row.result _
    (range_front g.met.T.LineTaker.joins (g.B.Body.content c.args.body.now) c.args.table c.args.from c.loop.next c.args.to.now c.in-Some.found _ _ _ (sym c.in_ok-found.ensures ∙ c.in-Some.is) c.loop.invariant.taken c.in_err-walk_row.ensures.err)

pub returns-in_err-after-clause-err : goal.returns-in_err-after-clause-err
returns-in_err-after-clause-err g c =
    let s = g.B.Body.content c.args.body.now in
    let found : next_row_of s c.args.table c.loop.next c.args.to.now ≡ Some c.in-Some.found = sym c.in_ok-found.ensures ∙ c.in-Some.is in
    let f = c.in-Some.found in
    let on = range_on g.met.T.LineTaker.joins s c.args.table c.args.from c.loop.next c.args.to.now (behind f.row.bytes) f _ _ _ found refl c.loop.invariant.taken c.in_ok-walk_row.ensures.ok in
    on_err c.from_residual-in_err-after.result _ (rows_some g.met.T.LineTaker.joins s (row_at c.args.table c.args.from) (row_at c.args.table (behind f.row.bytes)) _ _ on)

pub loop-preserved : goal.loop-preserved
loop-preserved g c =
    let s = g.B.Body.content c.args.body.now in
    let found : next_row_of s c.args.table c.loop.next c.args.to.now ≡ Some c.in-Some.found = sym c.in_ok-found.ensures ∙ c.in-Some.is in
    let after_is = c.in_ok-after.ensures ∙ ap behind c.list.ensures in
    record {
      taken = range_on g.met.T.LineTaker.joins s c.args.table c.args.from c.loop.next c.args.to.now c.in_ok-after.after c.in-Some.found _ _ _ found after_is c.loop.invariant.taken c.in_ok-walk_row.ensures.ok;
      range = range_left s c.args.table c.loop.next c.args.to.now c.in_ok-after.after c.in-Some.found found after_is c.loop.invariant.range;
      forward = range_forward s c.args.table c.loop.next c.args.to.now c.in_ok-after.after c.in-Some.found found after_is;
      later = let a = c.loop.invariant.later in let b = c.in_ok-walk_row.ensures.later in omega (arith, a, b);
    }

pub returns-clause-err : goal.returns-clause-err
returns-clause-err g c =
    rows_some g.met.T.LineTaker.joins (g.B.Body.content c.args.body.now) (row_at c.args.table c.args.from) (row_at c.args.table c.loop.next) _ _ c.loop.invariant.taken
