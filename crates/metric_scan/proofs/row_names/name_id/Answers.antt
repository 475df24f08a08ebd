use Rattle.std.proofs.Common.{sym, ◌∙◌}
use Rattle.metric_scan.specs.RowNames.{IdAsked}
use Rattle.metric_scan.proofs.NameReads.{passed_on, is_listed, not_listed, name_asked, name_found}
use Rattle.metric_scan.proofs.row_names.name_id.Goals as goal

pub returns-then-contains_key-clause-asked : goal.returns-then-contains_key-clause-asked
returns-then-contains_key-clause-asked g c = is_listed (g.R.Rows.seen c.args.names.now.rows) c.args.kind c.args.list.now.entries c.args.id (sym c.contains_key.ensures ∙ c.if-contains_key.true)

pub returns-in_err-name-clause-asked : goal.returns-in_err-name-clause-asked
returns-in_err-name-clause-asked g c =
    let none = not_listed c.args.list.now.entries c.args.id (sym c.contains_key.ensures ∙ c.if-contains_key.false) in
    passed_on (λ r. IdAsked (g.R.Rows.seen c.args.names.now.rows) c.args.kind c.args.id c.args.list.now.entries r c.args.list.now.entries (g.R.Rows.seen c.name_of.new.self.rows)) c.in_err-name.field-0.0 c.from_residual.result c.from_residual.ensures.1
    (name_asked _ _ c.args.kind c.args.id c.args.list.now.entries c.in_err-name.field-0.0 none c.in_err-name.ensures.made)

pub returns-in-Ok-clause-asked : goal.returns-in-Ok-clause-asked
returns-in-Ok-clause-asked g c =
    let none = not_listed c.args.list.now.entries c.args.id (sym c.contains_key.ensures ∙ c.if-contains_key.false) in
    name_found _ _ c.args.kind c.args.id c.args.list.now.entries c.insert.new.self.entries c.in_ok-name.name none c.in_ok-name.ensures.made c.in_ok-name.ensures.name c.in-Ok.ensures.updates.0
