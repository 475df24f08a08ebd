use Rattle.std.proofs.Common.{◌≡◌, ◌++◌, map, take, drop}
use Rattle.json_reply.specs.Texts.{dot_text, listed}
use Rattle.json_reply.proofs.Rising.{under_text, RisesOn}
use Rattle.json_reply.proofs.json_text.write_rising.Given as goal

abbrev pub invariant-loop-index : goal.invariant-loop-index
invariant-loop-index l = (l.out.items ≡ l.fn.out.items ++ listed (map dot_text (map (under_text l.ms) (take l.index l.dots)))) × RisesOn l.ms l.dots l.last (drop l.index l.dots)
