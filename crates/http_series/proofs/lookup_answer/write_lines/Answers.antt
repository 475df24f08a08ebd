use Rattle.http_series.specs.SeriesReplies.{line_text}
use Rattle.http_series.proofs.Listing.{listed_next}
use Rattle.http_series.proofs.lookup_answer.write_lines.Goals as goal

pub loop-index-preserved : goal.loop-index-preserved
loop-index-preserved c = listed_next line_text c.args.lines.now c.loop-index.index c.index-lines-index.result _ _ _ _ c.loop-index-test.true c.index-lines-index.is c.loop-index.invariant c.in_ok-write_comma.ensures c.in_ok-write_line.ensures
