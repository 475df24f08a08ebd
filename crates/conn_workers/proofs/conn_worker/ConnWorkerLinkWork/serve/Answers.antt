use Rattle.conn_workers.proofs.ServedTurns.{one_more_link, one_served, unstopped}
use Rattle.conn_workers.proofs.conn_worker.ConnWorkerLinkWork.serve.Goals as goal

pub returns-then-eq-clause-served : goal.returns-then-eq-clause-served
returns-then-eq-clause-served g c =
    let e = c.serve_conn-end.ensures in let n = c.serve_conn-end.new in
    one_more_link _ _ _ _ _ _ _
    (one_served g.I.Source.taken g.I.Source.left g.O.Sink.held _ c.args.inlet.now n.source c.args.outlet.now n.sink _ _ _ _ _ _ _ _ _ _ _ _ c.requires.fresh e.served e.end (unstopped _ _ _ (c.never_stopped.ensures _) (c.never_stopped.ensures _) e.causes))

pub returns-else-eq-clause-served : goal.returns-else-eq-clause-served
returns-else-eq-clause-served g c =
    let e = c.serve_conn-end.ensures in let n = c.serve_conn-end.new in
    one_more_link _ _ _ _ _ _ _
    (one_served g.I.Source.taken g.I.Source.left g.O.Sink.held _ c.args.inlet.now n.source c.args.outlet.now n.sink _ _ _ _ _ _ _ _ _ _ _ _ c.requires.fresh e.served e.end (unstopped _ _ _ (c.never_stopped.ensures _) (c.never_stopped.ensures _) e.causes))
