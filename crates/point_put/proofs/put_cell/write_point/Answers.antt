use Rattle.std.proofs.Common.{◌++◌, ◌∙◌}
use Rattle.tsd_base.specs.Points.{data_point}
use Rattle.point_put.proofs.Layouts.{few_bytes, knows_append}
use Rattle.point_put.proofs.put_cell.write_point.Goals as goal

pub piece_of-piece-requires : goal.piece_of-piece-requires
piece_of-piece-requires g c =
    few_bytes (g.R.Rows.seen c.args.names.now.rows) (data_point c.args.point.now) c.args.row.now c.args.qual.now c.args.value.now c.list.result.now c.list-then-appends.result.now
    c.list.ensures c.list-then-appends.ensures c.requires

pub append_point-requires : goal.append_point-requires
append_point-requires g c =
    let is = c.piece_of-piece.ensures ∙ (λ i. c.list.ensures i ++ c.list-then-appends.ensures i) in
    record { knows = knows_append (g.R.Rows.seen c.args.names.now.rows) (data_point c.args.point.now) c.args.row.now c.args.qual.now c.args.value.now c.piece_of-piece.result is c.requires }
