use Rattle.point_put.specs.Admissions.{admission}
use Rattle.tsd_daemon.proofs.HeadlineLemmas.{passes_headline}
use Rattle.tsd_daemon.proofs.Serving.{ends_asked, ends_queued, ends_served, ends_taken}
use Rattle.tsd_daemon.proofs.connection.serve_conn.Goals as goal

pub returns-clause-headline : goal.returns-clause-headline
returns-clause-headline g c = passes_headline (admission c.args.config.now c.args.rule.now.patterns) _ _ _ (ends_served _ _ _ _ c.serve_requests.ensures.served)

pub returns-clause-served : goal.returns-clause-served
returns-clause-served g c = ends_served _ _ _ _ c.serve_requests.ensures.served

pub returns-clause-queue : goal.returns-clause-queue
returns-clause-queue g c = ends_queued _ _ _ _ c.serve_requests.ensures.served

pub returns-clause-calls : goal.returns-clause-calls
returns-clause-calls g c = ends_asked _ _ _ _ c.serve_requests.ensures.served

pub returns-clause-pieces : goal.returns-clause-pieces
returns-clause-pieces g c = ends_taken _ _ _ _ c.serve_requests.ensures.served
