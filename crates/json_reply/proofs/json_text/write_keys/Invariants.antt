use Rattle.std.proofs.Common.{◌≡◌, ◌++◌, map, take}
use Rattle.json_reply.specs.Texts.{listed, quoted}
use Rattle.json_reply.proofs.json_text.write_keys.Given as goal

abbrev pub invariant-loop-index : goal.invariant-loop-index
invariant-loop-index l = l.out.items ≡ l.fn.out.items ++ listed (map quoted (take l.index l.keys))
