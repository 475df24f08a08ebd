-- The times that a query names.
use Rattle.std.specs.Prelude.{ℕ, ◌-◌, ◌*◌, min, Bool, ◌&&◌, nat_eq, nat_le, List, length, take, drop, codes, Option, None, Some, Result, Ok, Err, if◌then◌else◌}
use Rattle.std.specs.Char.{is_ascii_digit}
use Rattle.std.specs.List.{prefix_len}
use Rattle.std.specs.Option.{option_or}
use Rattle.std.specs.Str.Parse.{digits_value}
use Rattle.tsd_base.specs.Digits.{is_number}
use Rattle.tsd_base.specs.Tags.{is_same}
use Rattle.tsd_base.specs.Times.{time_of}
use Rattle.tsd_base.specs.declared.times.BadTime.{BadTime}
use Rattle.tsd_base.specs.declared.times.TheConstants.{LAST_TIME}
use Rattle.query_requests.specs.CivilDates.{date_of}
use Rattle.tsd_base.specs.Units.{unit_millis}
use Rattle.query_requests.specs.declared.query_times.BadTimes.{BadTimes}
use Rattle.tsd_base.specs.declared.units.TheConstants.{MOST_UNITS}

-- the number 0
abbrev pub is_zero : List ℕ → Bool
is_zero text = is_number text && nat_eq (digits_value 10 text) 0

-- a point's time
abbrev pub milli_in : Result (ℕ × Bool) BadTime → Option ℕ
milli_in (Ok t) = Some t.0
milli_in (Err bad) = None

-- the time that a text names whatever the clock shows: the number 0, a point's time, or a date
unfoldable pub fixed_time : List ℕ → Option ℕ
fixed_time text = if is_zero text then Some 0 else option_or (milli_in (time_of text)) (date_of text)

-- so many units before now, but not before 0, and not behind the last time
abbrev pub time_before : ℕ → ℕ → Option ℕ → Option ℕ
time_before now n None = None
time_before now n (Some unit) = if nat_le 1 n && nat_le n MOST_UNITS then Some (min (now - n * unit) LAST_TIME) else None

-- digits, and behind them a unit
abbrev pub span_before : ℕ → List ℕ → Option ℕ
span_before now text =
    if is_number (take (prefix_len is_ascii_digit text) text) then time_before now (digits_value 10 (take (prefix_len is_ascii_digit text) text)) (unit_millis (drop (prefix_len is_ascii_digit text) text))
    else None

-- digits, a unit and `-ago`
abbrev pub time_ago : ℕ → List ℕ → Option ℕ
time_ago now text = if is_same (drop (length text - 4) text) (codes "-ago") then span_before now (take (length text - 4) text) else None

-- every other text is no time
abbrev pub or_bad : Option ℕ → Result ℕ BadTimes
or_bad None = Err (record {})
or_bad (Some time) = Ok time

-- the time that a text names when the clock shows `now`, in milliseconds: one that stands in it, or a time ago
unfoldable pub time_named : ℕ → List ℕ → Result ℕ BadTimes
time_named now text = or_bad (option_or (fixed_time text) (time_ago now text))
