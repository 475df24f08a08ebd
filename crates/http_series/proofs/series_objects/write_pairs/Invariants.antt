use Rattle.std.proofs.Common.{◌≡◌, ◌++◌, map, take}
use Rattle.json_reply.specs.Texts.{listed, tag_text}
use Rattle.http_series.proofs.series_objects.write_pairs.Given as goal

abbrev pub invariant-loop-index : goal.invariant-loop-index
invariant-loop-index l = l.out.items ≡ l.fn.out.items ++ listed (map tag_text (take l.index l.pairs))
