use Rattle.import_job.proofs.Loops.{counted}
use Rattle.import_job.proofs.counter.metric_count.Goals as goal

pub returns-clause-counts : goal.returns-clause-counts
returns-clause-counts g c =
    let s = g.R.Rows in
    counted (s.seen c.args.rows.now) (s.seen c.read.new.self) c.counters-row.result c.in_ok-cells.cells c.count_in.result c.requires.alone c.counters-row.ensures c.in_ok-cells.ensures.ok c.in_ok-cells.ensures.possible c.count_in.ensures.some c.count_in.ensures.none
