use Rattle.std.proofs.Common.{ap, ◌∙◌}
use Rattle.point_put.specs.Admissions.{admission}
use Rattle.stdio_job.proofs.Publishing.{none_published}
use Rattle.stdio_job.proofs.feeding.serve_feeding.Goals as goal

pub returns-in-Err-clause-served : goal.returns-in-Err-clause-served
returns-in-Err-clause-served g c =
    none_published (admission c.args.config.now c.args.rule.now.patterns) g.J.FeedTerms.prefix g.J.FeedTerms.start (g.R.Rows.seen c.part-rows.result.0) _
    (ap g.R.Rows.seen (c.part-rows.ensures.rows ∙ (λ j. (c.in-Err.ensures.err j).rows) ∙ c.make-feed.ensures.rows) ∙ c.requires.start)
