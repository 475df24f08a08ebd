use Rattle.std.proofs.Common.{◌≡◌, ◌≤◌, take, length}
use Rattle.http_assign.specs.AssignLists.{of_kind, outcomes_of}
use Rattle.http_assign.specs.AssignTexts.{GoesOn, MadeSome}
use Rattle.http_assign.proofs.assign_lists.assign_texts.Given as goal

abbrev pub invariant-loop-text : goal.invariant-loop-text
invariant-loop-text g l = record {
  made : MadeSome (g.R.Rows.seen l.fn.names.rows) (g.R.Rows.seen l.names.rows);
  goes_on : GoesOn l.rule.patterns (of_kind l.kind (take l.text-index l.texts)) (g.R.Rows.seen l.fn.names.rows) (outcomes_of l.outs.items) (g.R.Rows.seen l.names.rows);
  each : length l.outs.items ≡ l.text-index;
  grows : g.R.Rows.stops l.fn.names.rows ≤ g.R.Rows.stops l.names.rows;
}
