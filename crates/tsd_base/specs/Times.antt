-- Times in text.
use Rattle.std.specs.Prelude.{ℕ, ◌+◌, ◌*◌, Bool, true, false, ◌&&◌, nat_eq, nat_lt, nat_le, List, length, take, drop, slice_index, Result, Ok, Err, if◌then◌else◌}
use Rattle.std.specs.Str.Parse.{digits_value}
use Rattle.tsd_base.specs.declared.times.BadTime.{BadTime}
use Rattle.tsd_base.specs.Digits.{is_number}

abbrev pub no_time : Result (ℕ × Bool) BadTime
no_time = Err (record {})

-- a number of seconds, or from 2 ^ 32 on of milliseconds
abbrev pub whole_time : ℕ → Result (ℕ × Bool) BadTime
whole_time n =
    if nat_eq n 0 then no_time else (if nat_le n 4294967295 then Ok (n * 1000, false) else (if nat_le n 4294967295999 then Ok (n, true) else no_time))

-- seconds, and milliseconds of that second
abbrev pub dotted_time : ℕ → ℕ → Result (ℕ × Bool) BadTime
dotted_time second milli = if nat_le second 4294967295 && nat_lt 0 (second + milli) then Ok (second * 1000 + milli, true) else no_time

abbrev pub dotted_of : List ℕ → List ℕ → Result (ℕ × Bool) BadTime
dotted_of seconds millis = if is_number seconds && is_number millis then dotted_time (digits_value 10 seconds) (digits_value 10 millis) else no_time

-- ten bytes, a dot and three bytes
abbrev pub is_dotted : List ℕ → Bool
is_dotted text = nat_eq (length text) 14 && nat_eq (slice_index text 10) 46

-- the time of a text, in milliseconds, and whether it was given so
unfoldable pub time_of : List ℕ → Result (ℕ × Bool) BadTime
time_of text =
    if is_number text then whole_time (digits_value 10 text)
    else (if is_dotted text then dotted_of (take 10 text) (drop 11 text) else no_time)
