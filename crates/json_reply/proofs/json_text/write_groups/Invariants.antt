use Rattle.std.proofs.Common.{◌≡◌, ◌++◌, map, take}
use Rattle.json_reply.specs.Replies.{group_text, plain}
use Rattle.json_reply.specs.Texts.{listed}
use Rattle.json_reply.proofs.json_text.write_groups.Given as goal

abbrev pub invariant-loop-index : goal.invariant-loop-index
invariant-loop-index l = l.out.items ≡ l.fn.out.items ++ listed (map group_text (map plain (take l.index l.groups)))
