use Rattle.std.proofs.Common.{◌≤◌}
use Rattle.cell_model.specs.Seen.{Seen}
use Rattle.uid_table.specs.IdSteps.{MadeSo}
use Rattle.uid_table.specs.Suggest.{AllLooks, CanSearch, Gathers}
use Rattle.uid_table.proofs.Ranks.{left_from}
use Rattle.uid_table.proofs.suggest.look_from.Given as goal

-- all names before `from` were gathered
abbrev pub invariant-search : goal.invariant-search
invariant-search g l = record {
  search : CanSearch l.prefix l.low l.high l.from;
  gathers : (start : Seen) → Gathers start l.kind l.prefix l.max l.initial.from l.initial.names.items (g.R.Rows.seen l.initial.rows) → Gathers start l.kind l.prefix l.max l.from l.names.items (g.R.Rows.seen l.rows);
  made : MadeSo (g.R.Rows.seen l.initial.rows) AllLooks (g.R.Rows.seen l.rows);
  grows : g.R.Rows.stops l.initial.rows ≤ g.R.Rows.stops l.rows;
}

abbrev pub decreases-search : goal.decreases-search
decreases-search g l = left_from l.from
