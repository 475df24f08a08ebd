use Rattle.std.proofs.lemmas.Result.{IfOk-weaker}
use Rattle.tsd_base.specs.Names.{name_of}
use Rattle.http_assign.proofs.TextRuns.{at_err, bad_begun, text_bad}
use Rattle.http_assign.proofs.assign_lists.assign_text.Goals as goal

pub returns-in-Err-clause-ok : goal.returns-in-Err-clause-ok
returns-in-Err-clause-ok g c =
    IfOk-weaker c.bad_name.result _ _ (λ out bad. text_bad c.args.rule.now.patterns c.args.kind c.in-Err.fault (name_of c.args.text.now) (g.R.Rows.seen c.args.names.now.rows) _ c.in-Err.ensures.gives bad) c.bad_name.ensures.ok

pub returns-in-Err-clause-err : goal.returns-in-Err-clause-err
returns-in-Err-clause-err g c = at_err c.bad_name.result (bad_begun c.args.rule.now.patterns c.args.kind (name_of c.args.text.now) (g.R.Rows.seen c.args.names.now.rows))
