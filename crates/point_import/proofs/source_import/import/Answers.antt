use Rattle.std.proofs.Common.{arith}
use Rattle.line_stream.specs.declared.line.TheConstants.{LONGEST_LINE}
use Rattle.line_stream.specs.Reads.{no_bytes}
use Rattle.point_import.specs.PutPoints.{no_patterns}
use Rattle.point_import.proofs.AcceptedLines.{nothing_taken, out_of_memory}
use Rattle.point_import.proofs.source_import.import.Goals as goal

pub returns-in_default-clause-imports : goal.returns-in_default-clause-imports
returns-in_default-clause-imports g c =
    let s = g.S.Source in
    let old = g.R.Rows.seen c.args.names.now.rows in
    out_of_memory no_patterns (s.taken c.args.source.now) (s.taken c.args.source.now) (s.left c.args.source.now) (s.left c.args.source.now) old old 0 (no_bytes LONGEST_LINE) (nothing_taken no_patterns (s.taken c.args.source.now) (s.left c.args.source.now) old) (omega arith)
