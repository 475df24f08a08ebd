use Rattle.std.proofs.Common.{◌≡◌, ◌≤◌, ◌++◌, map, take}
use Rattle.json_reply.specs.Texts.{listed}
use Rattle.http_reply.specs.PutReplies.{refused, failed, error_object, texts_of}
use Rattle.http_reply.proofs.put_reply.write_errors.Given as goal

-- those before the place are written and counted
abbrev pub invariant-loop-index : goal.invariant-loop-index
invariant-loop-index l = record {
  written : l.written ≡ failed (texts_of (take l.index l.outcomes));
  few : l.written ≤ l.index;
  text : l.body.items ≡ l.fn.body.items ++ listed (map error_object (refused (texts_of (take l.index l.outcomes))));
}
