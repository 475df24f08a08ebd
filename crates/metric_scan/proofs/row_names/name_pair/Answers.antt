use Rattle.std.proofs.Common.{[], ◌∷◌}
use Rattle.metric_scan.specs.RowNames.{NamesAsked, ids_of, known}
use Rattle.metric_scan.proofs.NameReads.{passed_on, key_cut, value_cut, pair_read}
use Rattle.metric_scan.proofs.row_names.name_pair.Goals as goal

pub returns-in_err-name_id-clause-asked : goal.returns-in_err-name_id-clause-asked
returns-in_err-name_id-clause-asked g c =
    passed_on (λ r. NamesAsked (g.R.Rows.seen c.args.names.now.rows) (known c.args.list.now) (ids_of (c.args.pair ∷ [])) r (known (record { keys = c.name_id.new.list; values = c.args.list.now.values })) (g.R.Rows.seen c.name_id.new.names.rows)) c.in_err-name_id.field-0.0 c.from_residual.result c.from_residual.ensures.1
    (key_cut _ _ c.args.list.now.keys.entries c.args.list.now.values.entries c.args.pair c.in_err-name_id.ensures.asked)

pub returns-in_err-name_id-2-clause-asked : goal.returns-in_err-name_id-2-clause-asked
returns-in_err-name_id-2-clause-asked g c =
    passed_on (λ r. NamesAsked (g.R.Rows.seen c.args.names.now.rows) (known c.args.list.now) (ids_of (c.args.pair ∷ [])) r (known (record { keys = c.name_id.new.list; values = c.name_id-2.new.list })) (g.R.Rows.seen c.name_id-2.new.names.rows)) c.in_err-name_id-2.field-0.0 c.from_residual-in_err-name_id-2.result c.from_residual-in_err-name_id-2.ensures.1
    (value_cut _ _ _ c.args.list.now.keys.entries c.name_id.new.list.entries c.args.list.now.values.entries c.args.pair c.in_ok-name_id.ensures.asked c.in_err-name_id-2.ensures.asked)

pub returns-clause-asked : goal.returns-clause-asked
returns-clause-asked g c =
    pair_read _ _ _ c.args.list.now.keys.entries c.name_id.new.list.entries c.args.list.now.values.entries c.name_id-2.new.list.entries c.args.pair c.in_ok-name_id.ensures.asked c.in_ok-name_id-2.ensures.asked
