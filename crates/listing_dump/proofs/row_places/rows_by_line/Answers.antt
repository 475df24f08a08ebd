use Rattle.std.proofs.Common.{ℕ, List, Vec, Global, length, subst, arith, ap, sym, ◌≡◌, ◌∙◌}
use Rattle.cell_model.specs.declared.row.ListLine.{ListLine}
use Rattle.listing_dump.specs.RowPlaces.{AreRowsTo, IsKeyOf}
use Rattle.listing_dump.specs.declared.row_places.RowPlace.{RowPlace}
use Rattle.listing_dump.proofs.RowTurns.{place_ranked, row_passed, row_pushed, row_ranked}
use Rattle.listing_dump.proofs.Turns.{line_at}
use Rattle.listing_dump.proofs.row_places.rows_by_line.Goals as goal
use Rattle.listing_dump.proofs.row_places.rows_by_line.Goals.{then-begins_row+in_ok-push, else-begins_row}

pub place_of_row-requires : goal.place_of_row-requires
place_of_row-requires c =
    let here = line_at c.args.cells.now c.loop-at.at c.index-cells-at.result c.loop-at-test.true c.index-cells-at.is in
    row_ranked c.args.widths c.args.cells.now c.args.ranks.now c.loop-at.at c.index-cells-at.result c.list.result.now c.requires.keys here (sym (c.begins_row.ensures c.index-cells-at.result here) ∙ c.if-begins_row.true)
    (c.list.ensures ∙ ap (λ (l : ListLine). l.row) (sym c.index-cells-at.is))

pub loop-at-preserved : goal.loop-at-preserved
loop-at-preserved c =
    elim c.if-begins_row.branch [
      | then-begins_row+in_ok-push w ↦
          let here = line_at c.args.cells.now c.loop-at.at w.index-cells-at.result c.loop-at-test.true w.index-cells-at.is in
          let key = w.place_of_row.ensures in
          row_pushed c.args.widths c.args.cells.now c.loop-at.rows.items c.if-begins_row.rows.items w.place_of_row.result c.loop-at.at key.2.line_is
          (place_ranked c.args.widths c.args.cells.now c.args.ranks.now c.requires.ranks c.loop-at.at w.index-cells-at.result key.0 w.place_of_row.result here (sym (c.begins_row.ensures w.index-cells-at.result here) ∙ w.if-begins_row.true)
          (subst (λ (b : List ℕ). IsKeyOf c.args.widths b key.0) (w.list.ensures ∙ ap (λ (l : ListLine). l.row) (sym w.index-cells-at.is)) key.1) key.2)
          c.loop-at.invariant (ap (λ (v : Vec RowPlace Global). v.items) w.rows-is ∙ w.in_ok-push.ensures.items)
      | else-begins_row w ↦
          row_passed c.args.widths c.args.cells.now c.loop-at.rows.items c.if-begins_row.rows.items c.loop-at.at (λ l isl. sym (c.begins_row.ensures l isl) ∙ w.if-begins_row.false) c.loop-at.invariant
          (ap (λ (v : Vec RowPlace Global). v.items) w.rows-is)
    ]

pub returns : goal.returns
returns c =
    let low = c.loop-at-test.false in let high = c.loop-at.auto.at-end in
    let e : c.loop-at.at ≡ length c.args.cells.now = omega (arith, low, high) in
    subst (AreRowsTo c.args.widths c.args.cells.now c.loop-at.rows.items) e c.loop-at.invariant
