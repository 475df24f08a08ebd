use Rattle.std.proofs.Common.{Ok, subst}
use Rattle.tsd_base.specs.Points.{data_point}
use Rattle.point_put.specs.PutPoint.{StoreMade}
use Rattle.point_put.specs.StoredTexts.{place_of}
use Rattle.point_put.proofs.Layouts.{laid, knows_put, stored, not_stored_at}
use Rattle.point_put.proofs.put_cell.store_placed.Goals as goal

pub write_point-requires : goal.write_point-requires
write_point-requires g c =
    let cell = laid (g.R.Rows.seen c.args.names.now.rows) (data_point c.args.placed.now.point) c.requires.key c.args.placed.now.row c.qualifier_of-qual.result c.value_of-value.result _ c.list.ensures c.requires.shown c.requires.names c.requires.possible c.requires.row c.qualifier_of-qual.ensures c.value_of-value.ensures in
    knows_put (g.R.Rows.seen c.args.names.now.rows) (data_point c.args.placed.now.point) c.requires.key c.args.placed.now.row c.qualifier_of-qual.result c.value_of-value.result cell

pub returns-in_err-write_point-clause-made : goal.returns-in_err-write_point-clause-made
returns-in_err-write_point-clause-made g c = not_stored_at c.args.config.now.appends _ _ (data_point c.args.placed.now.point) c.in_err-write_point.field-0.0 c.from_residual.result (place_of c.args.placed.now) c.from_residual.ensures.1 c.in_err-write_point.ensures.err c.in_err-write_point.ensures.lives

pub returns-clause-made : goal.returns-clause-made
returns-clause-made g c =
    let cell = laid (g.R.Rows.seen c.args.names.now.rows) (data_point c.args.placed.now.point) c.requires.key c.args.placed.now.row c.qualifier_of-qual.result c.value_of-value.result _ c.list.ensures c.requires.shown c.requires.names c.requires.possible c.requires.row c.qualifier_of-qual.ensures c.value_of-value.ensures in
    subst (λ b. StoreMade c.args.config.now.appends (data_point c.args.placed.now.point) (g.R.Rows.seen c.args.names.now.rows) (Ok (record { row = c.args.placed.now.row; base = b })) (g.R.Rows.seen c.write_point.new.names.rows)) c.requires.base
    (stored c.args.config.now.appends _ _ (data_point c.args.placed.now.point) c.requires.key c.args.placed.now.row c.qualifier_of-qual.result c.value_of-value.result cell c.in_ok-write_point.ensures.ok c.in_ok-write_point.ensures.possible)
