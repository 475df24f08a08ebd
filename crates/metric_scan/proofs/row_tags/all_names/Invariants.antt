use Rattle.std.proofs.Common.{take}
use Rattle.std.specs.List.{AllZip}
use Rattle.cell_model.specs.Readings.{IsNamed}
use Rattle.metric_scan.specs.RowNames.{known}
use Rattle.metric_scan.proofs.row_tags.all_names.Given as goal

abbrev pub invariant-loop-pair : goal.invariant-loop-pair
invariant-loop-pair l = AllZip (IsNamed (known l.names)) (take l.pair-index l.pairs) l.list.items
