use Rattle.std.proofs.Common.{◌≤◌, map, take}
use Rattle.serde_json.specs.View.{view}
use Rattle.point_put.specs.Admissions.{admission}
use Rattle.http_put.specs.PutElements.{texts_of}
use Rattle.http_put.proofs.ElementRuns.{SoFar}
use Rattle.http_put.proofs.put_elements.put_elements.Given as goal

abbrev pub invariant-loop-element : goal.invariant-loop-element
invariant-loop-element g l = record {
  so_far : SoFar (admission l.config l.rule.patterns) (map view (take l.element-index l.elements)) (g.R.Rows.seen l.fn.names.rows) l.fn.queue (texts_of l.outs.items) (g.R.Rows.seen l.names.rows) l.queue;
  grows : g.R.Rows.stops l.fn.names.rows ≤ g.R.Rows.stops l.names.rows;
}
