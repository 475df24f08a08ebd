-- The hours of rows.
use Rattle.std.specs.Prelude.{ℕ, ◌*◌, ◌/◌}
use Rattle.row_hours.specs.declared.hours.TheConstants.{HOUR, HOUR_MILLIS}

-- the second at which the hour of a time in milliseconds begins
abbrev pub base_time : ℕ → ℕ
base_time time = time / HOUR_MILLIS * HOUR
