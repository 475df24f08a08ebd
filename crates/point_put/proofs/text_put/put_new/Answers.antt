use Rattle.std.proofs.Common.{ap}
use Rattle.tsd_base.specs.Points.{data_point}
use Rattle.cell_laws.proofs.CallerLemmas.{nothing_made}
use Rattle.point_put.specs.Admissions.{admission}
use Rattle.point_put.proofs.TextOutcomes.{few_unread, new_put}
use Rattle.uid_table.specs.NamedRows.{NamedRows}
use Rattle.point_put.proofs.text_put.put_new.Goals as goal

pub returns-in-Err-clause-says : goal.returns-in-Err-clause-says
returns-in-Err-clause-says g c = (c.in-Err.ensures.gives, nothing_made _)

pub returns-in-Err-clause-few : goal.returns-in-Err-clause-few
returns-in-Err-clause-few g c point read = few_unread _ point

pub returns-in-Ok-put_first-clause-says : goal.returns-in-Ok-put_first-clause-says
returns-in-Ok-put_first-clause-says g c =
    new_put (admission c.args.config.now c.args.rule.now.patterns) c.args.text.now _ (g.R.Rows.seen c.put_first.new.names.rows) (g.R.Rows.seen c.know.new.names.rows) (data_point c.in-Ok.point) c.in-Ok-put_first.placed c.know.result
    (ap (λ (u : NamedRows _). g.R.Rows.seen u.rows) c.know.ensures.same) c.know.ensures.row c.know.ensures.base c.in-Ok.ensures.gives c.in-Ok-put_first.ensures.says
