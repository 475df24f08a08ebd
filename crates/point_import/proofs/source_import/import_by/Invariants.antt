use Rattle.std.proofs.Common.{◌≡◌, ◌+◌, ◌-◌, ◌^◌, ◌≤◌, length}
use Rattle.line_stream.specs.declared.line.TheConstants.{LONGEST_LINE}
use Rattle.point_import.proofs.AcceptedLines.{HasPut}
use Rattle.point_import.proofs.source_import.import_by.Given as goal

abbrev pub invariant-loop-reader : goal.invariant-loop-reader
invariant-loop-reader g l =
    let s = g.S.Source in
    record {
      put : HasPut l.fn.rule.patterns (s.taken l.fn.source) (s.taken l.source) (s.left l.fn.source) (s.left l.source) (g.R.Rows.seen l.fn.names.rows) (g.R.Rows.seen l.names.rows) l.count l.reader;
      longest : l.reader.longest ≡ LONGEST_LINE;
      few : l.count ≤ l.reader.lines;
      most : l.reader.taken ≤ 2 ^ 40;
      later : s.faults l.fn.source ≤ s.faults l.source;
      grows : g.R.Rows.stops l.fn.names.rows ≤ g.R.Rows.stops l.names.rows;
    }

abbrev pub decreases-loop-reader : goal.decreases-loop-reader
decreases-loop-reader g l = 2 ^ 40 + length l.reader.bytes - l.reader.taken
