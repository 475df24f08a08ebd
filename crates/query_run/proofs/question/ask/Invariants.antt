use Rattle.std.proofs.Common.{◌≤◌, take}
use Rattle.std.specs.Prelude.{All, map}
use Rattle.json_reply.specs.Replies.{IsReady, plain}
use Rattle.query_run.proofs.AllSubs.{Progress}
use Rattle.query_run.proofs.question.ask.Given as goal

-- the sub queries so far were answered
abbrev pub invariant-loop-sub : goal.invariant-loop-sub
invariant-loop-sub g l = record {
  progress : Progress l.query (g.R.Rows.seen l.initial.names.rows) (take l.sub-index l.query.subs) (map plain l.groups.items) (g.R.Rows.seen l.names.rows);
  ready : All IsReady l.groups.items;
  grows : g.R.Rows.stops l.initial.names.rows ≤ g.R.Rows.stops l.names.rows;
}
