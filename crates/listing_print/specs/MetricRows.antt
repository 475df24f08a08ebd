-- The bytes at which the rows of a metric begin and end.
use Rattle.std.specs.Prelude.{ℕ, List}
use Rattle.cell_model.specs.KindWidths.{Widths}
use Rattle.row_key.specs.Key.{hour_bytes}

-- no row of the metric is below these
abbrev pub metric_start : Widths → ℕ → List ℕ
metric_start w metric = hour_bytes w metric 0

-- each row of the metric is: no hour begins at the last second of 32 bits
abbrev pub metric_end : Widths → ℕ → List ℕ
metric_end w metric = hour_bytes w metric 4294967295
