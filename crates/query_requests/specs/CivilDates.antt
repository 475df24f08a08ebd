-- Dates with times of day, in UTC.
use Rattle.std.specs.Prelude.{ℕ, ◌+◌, ◌*◌, Bool, ◌&&◌, ◌||◌, nat_eq, nat_le, List, length, take, drop, slice_index, ℤ, pos, negsuc, ◌+ℤ◌, ◌*ℤ◌, Option, None, Some, option_and_then, if◌then◌else◌}
use Rattle.std.specs.Str.Parse.{digits_value}
use Rattle.jiff_core.specs.Calendar.{days_in_month, days_from_civil}
use Rattle.tsd_base.specs.Digits.{is_number}
use Rattle.tsd_base.specs.declared.times.TheConstants.{LAST_SECOND}
use Rattle.query_requests.specs.declared.civil_dates.Clock.{Clock}

-- a date and a time of day
pub record Civil : Type 0 where
  pub year : ℕ
  pub month : ℕ
  pub day : ℕ
  pub hour : ℕ
  pub minute : ℕ
  pub second : ℕ

-- the calendar has the date, and a clock the time
abbrev pub is_civil : Civil → Bool
is_civil c =
    (nat_le c.year 9999 && (nat_le 1 c.month && nat_le c.month 12) && (nat_le 1 c.day && nat_le c.day (days_in_month (pos c.year) c.month)))
    && (nat_le c.hour 23 && nat_le c.minute 59 && nat_le c.second 59)

-- its second since 1970, in UTC
abbrev pub second_of : Civil → ℤ
second_of c = days_from_civil (pos c.year) c.month c.day *ℤ pos 86400 +ℤ pos (c.hour * 3600 + c.minute * 60 + c.second)

-- the first millisecond of a second, from 0 to the last time
abbrev pub milli_of : ℤ → Option ℕ
milli_of (pos n) = if nat_le n LAST_SECOND then Some (n * 1000) else None
milli_of (negsuc n) = None

-- the time, where the calendar has the date and a clock the time of day
abbrev pub civil_time : Civil → Option ℕ
civil_time c = if is_civil c then milli_of (second_of c) else None

-- the number of so many digits from a place on
abbrev pub number_at : ℕ → ℕ → List ℕ → Option ℕ
number_at at len text = if is_number (take len (drop at text)) then Some (digits_value 10 (take len (drop at text))) else None

-- this byte stands at this place
abbrev pub is_at : ℕ → ℕ → List ℕ → Bool
is_at at byte text = nat_eq (slice_index text at) byte

infixl 10 ◌>>=◌
abbrev pub ◌>>=◌ : {A B : Type 0} → Option A → (A → Option B) → Option B
o >>= f = option_and_then f o

-- `-` or a space, and `HH:mm`, with a second that was read
abbrev pub clock_at : ℕ → List ℕ → Option Clock
clock_at second text = do
  hour ← number_at 11 2 text
  minute ← number_at 14 2 text
  if (is_at 10 45 text || is_at 10 32 text) && is_at 13 58 text then Some (record { hour = hour; minute = minute; second = second }) else None

-- what stands behind a date: nothing, which is midnight, or `HH:mm` or `HH:mm:ss`
abbrev pub clock_of : List ℕ → Option Clock
clock_of text =
    if nat_eq (length text) 10 then Some (record { hour = 0; minute = 0; second = 0 })
    else if nat_eq (length text) 16 then clock_at 0 text
    else if nat_eq (length text) 19 && is_at 16 58 text then (number_at 17 2 text >>= λ second. clock_at second text)
    else None

-- the time of `yyyy/MM/dd`, alone or with `HH:mm` or `HH:mm:ss` behind a `-` or a space
unfoldable pub date_of : List ℕ → Option ℕ
date_of text = do
  clock ← clock_of text
  year ← number_at 0 4 text
  month ← number_at 5 2 text
  day ← number_at 8 2 text
  if is_at 4 47 text && is_at 7 47 text then civil_time (record { year = year; month = month; day = day; hour = clock.hour; minute = clock.minute; second = clock.second }) else None
