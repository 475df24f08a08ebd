use Rattle.std.proofs.Common.{◌≡◌, ◌++◌, map, take}
use Rattle.json_reply.specs.Texts.{listed}
use Rattle.http_series.specs.SeriesReplies.{line_text}
use Rattle.http_series.proofs.lookup_answer.write_lines.Given as goal

abbrev pub invariant-loop-index : goal.invariant-loop-index
invariant-loop-index l = l.out.items ≡ l.fn.out.items ++ listed (map line_text (take l.index l.lines))
