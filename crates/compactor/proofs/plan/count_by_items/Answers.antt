use Rattle.std.proofs.Common.{◌≡◌, ◌+◌, ◌<◌, ◌∷◌, [], true, false, List, length, ap, sym, ◌∙◌, arith, rules}
use Rattle.std.proofs.lemmas.List.{length_push}
use Rattle.qual_codec.specs.declared.cells.Cell.{Cell}
use Rattle.compactor.proofs.Rows.{is_other, next_kept, next_left}
use Rattle.compactor.proofs.plan.count_by_items.Goals.{then-not-is_column, else-not-is_column}
use Rattle.compactor.proofs.plan.count_by_items.Goals as goal

pub overflow_add-count : goal.overflow_add-count
overflow_add-count c = omega (arith, c.loop-i.invariant.1, c.loop-i-test.true, c.loop-i.auto.i-end)

pub loop-i-preserved : goal.loop-i-preserved
loop-i-preserved c =
    let l = c.loop-i in
    let cells = c.args.cells.now in
    let cell : Cell = c.cell.result in
    let within : l.i < length cells = omega (arith, c.loop-i-test.true, c.len-i-end.ensures, l.auto.i-end) in
    let here = c.cell.ensures.cell cell in
    let qual = ap (λ (x : Cell). x.qual) c.cell-in-loop-i.view_is in
    elim c.if-not-is_column.branch [
      | then-not-is_column w ↦
          let no : c.is_column.result ≡ false = search rules in
          let more = ap (λ (x : List Cell). length x) (next_kept cells l.i cell within here (is_other c.is_column.result cell.qual _ (λ e. c.is_column.ensures.1 (qual ∙ e)) no)) ∙ length_push _ cell in
          let count = w.count-is in
          (omega (arith, count, more, l.invariant.0), omega (arith, count, l.invariant.1))
      | else-not-is_column w ↦
          let yes : c.is_column.result ≡ true = search rules in
          let more = ap (λ (x : List Cell). length x) (next_left cells l.i cell within here (sym qual ∙ c.is_column.ensures.0 yes)) in
          let count = w.count-is in
          (omega (arith, count, more, l.invariant.0), omega (arith, count, l.invariant.1))
    ]
