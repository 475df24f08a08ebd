use Rattle.std.proofs.Common.{◌≡◌, ◌≤◌, take}
use Rattle.http_reply.specs.PutReplies.{failed, texts_of}
use Rattle.http_reply.proofs.put_reply.failed.Given as goal

-- those before the place are counted
abbrev pub invariant-loop-outcome : goal.invariant-loop-outcome
invariant-loop-outcome l = (l.count ≡ failed (texts_of (take l.outcome-index l.outcomes))) × (l.count ≤ l.outcome-index)
