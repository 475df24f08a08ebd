use Rattle.std.proofs.Common.{sym, ap, ◌∙◌}
use Rattle.point_put.specs.Admissions.{admission}
use Rattle.stdio_job.proofs.Publishing.{published_so}
use Rattle.stdio_job.proofs.feeding.serve_names.Goals as goal

pub returns-clause-served : goal.returns-clause-served
returns-clause-served g c =
    let seen = g.R.Rows.seen in
    let rows = c.part-rows.ensures.rows in
    published_so (admission c.args.config.now c.args.rule.now.patterns) g.J.FeedTerms.prefix g.J.FeedTerms.start (seen c.args.names.rows.rows) (seen c.serve_conn-ended.new.names.rows.rows) (seen c.part.result.rows) (seen c.part-rows.result.0) _ _ _
    c.serve_conn-ended.result c.publish-served.result c.part-rows.result.1.items c.deref.result.now c.part-rows.result.2 c.requires.start (ap seen (sym (rows ∙ (λ j. (c.part.ensures j).rows)))) (ap seen (sym rows)) c.deref.ensures.value
    c.serve_conn-ended.ensures.served c.part-rows.ensures.since c.publish-served.ensures.gave
