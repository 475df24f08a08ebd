use Rattle.std.proofs.Common.{◌≡◌, ◌+◌, ◌-◌, ◌^◌, ◌≤◌, length}
use Rattle.line_stream.specs.declared.line.TheConstants.{LONGEST_LINE}
use Rattle.batch_job.specs.Pending.{so_far}
use Rattle.batch_run.proofs.InputLemmas.{HasRead}
use Rattle.batch_run.proofs.input.read_points.Given as goal

abbrev pub invariant-loop-reader : goal.invariant-loop-reader
invariant-loop-reader g l =
    let s = g.S.Source in
    record {
      read : HasRead (s.taken l.fn.source) (s.taken l.source) (s.left l.fn.source) (s.left l.source) (so_far (g.R.Rows.seen l.store.rows) l.gathered) l.reader;
      longest : l.reader.longest ≡ LONGEST_LINE;
      most : l.reader.taken ≤ 2 ^ 40;
      later : s.faults l.fn.source ≤ s.faults l.source;
      grows : g.R.Rows.stops l.fn.store.rows ≤ g.R.Rows.stops l.store.rows;
    }

abbrev pub decreases-loop-reader : goal.decreases-loop-reader
decreases-loop-reader g l = 2 ^ 40 + length l.reader.bytes - l.reader.taken
