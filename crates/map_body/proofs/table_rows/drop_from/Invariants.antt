use Rattle.std.proofs.Common.{◌≡◌}
use Rattle.std.specs.Prelude.{drop}
use Rattle.std.specs.FinMap.{len}
use Rattle.map_body.specs.TableRows.{left}
use Rattle.map_body.proofs.table_rows.drop_from.Given as goal

abbrev pub invariant-loop-qual : goal.invariant-loop-qual
invariant-loop-qual l = record { going : left l.cells (drop l.qual-index l.which) ≡ left l.fn.cells l.which; before : l.before ≡ len l.fn.cells }
