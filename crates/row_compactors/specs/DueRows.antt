-- Which rows are compacted when.
use Rattle.std.specs.Prelude.{ℕ, ◌-◌, min}
use Rattle.row_hours.specs.Hours.{base_time}
use Rattle.row_hours.specs.declared.hours.TheConstants.{HOUR_MILLIS}
use Rattle.tsd_base.specs.declared.times.TheConstants.{LAST_TIME}

-- At a moment, in milliseconds since 1970, rows whose hours begin before that of the moment an hour earlier, or before that of the last time.
abbrev pub due_before : ℕ → ℕ
due_before moment = base_time (min (moment - HOUR_MILLIS) LAST_TIME)
