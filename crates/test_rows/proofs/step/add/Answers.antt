use Rattle.std.proofs.Common.{◌≡◌, subst, sym}
use Rattle.tsd_base.specs.Points.{data_point}
use Rattle.row_key.specs.Key.{IsKey, key_bytes}
use Rattle.cell_model.specs.KindWidths.{Widths}
use Rattle.cell_model.specs.Readings.{point_row}
use Rattle.cell_solo.specs.Turns.{sight}
use Rattle.test_rows.specs.Facts.{AllHold}
use Rattle.test_rows.specs.Sharing.IsOneStep.{one}
use Rattle.test_rows.proofs.Putting.{append_known, is_key}
use Rattle.test_rows.proofs.step.add.Goals as goal

pub row_of-requires : goal.row_of-requires
row_of-requires c = subst (λ (w : Widths). IsKey w c.args.key.now) (sym c.widths.ensures) (is_key (sight c.args.shared.now.solo).base.widths c.args.shared.now.facts (data_point c.args.point.now) c.args.key.now c.requires.key)

pub append_point-requires : goal.append_point-requires
append_point-requires c = record {
  knows = append_known (sight c.args.shared.now.solo).base.widths (sight c.args.shared.now.solo) c.args.shared.now.facts (data_point c.args.point.now) c.args.key.now c.in_ok-row.row c.qualifier_of-qual.result c.value_of-value.result c.list.result.now c.list-2.result.now c.list-3.result.now c.in_ok-piece.piece
      (subst (AllHold (sight c.args.shared.now.solo)) c.facts.ensures.facts c.facts.ensures.hold) c.requires.key c.list.ensures c.list-2.ensures c.list-3.ensures c.in_ok-piece.ensures
      (subst (λ (w : Widths). c.in_ok-row.row ≡ point_row (key_bytes w c.args.key.now)) c.widths.ensures c.in_ok-row.ensures) c.qualifier_of-qual.ensures c.value_of-value.ensures;
}

pub returns-in-Ok : goal.returns-in-Ok
returns-in-Ok c = one c.in-Ok.ensures.steps
