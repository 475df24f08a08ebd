-- Dates with times of day as the library has them.
use Rattle.std.specs.Prelude.{ℕ, ◌≤◌, pos, Option, MatchOption}
use Rattle.jiff_core.specs.Calendar.{IsDate}
use Rattle.jiff_core.specs.Date.{IsYmd}
use Rattle.jiff_core.specs.Time.{IsTime, IsHms}
use Rattle.jiff_core.specs.declared.civil.datetime.DateTime.{DateTime}

-- numbers that may be a date and a time of day
pub record IsSmall (year month day hour minute second : ℕ) : Type 0 where
  pub year_in : year ≤ 9999
  pub month_in : month ≤ 12
  pub day_in : day ≤ 31
  pub hour_in : hour ≤ 23
  pub minute_in : minute ≤ 59
  pub second_in : second ≤ 59

-- the library has a moment of these numbers
abbrev pub IsThere : ℕ → ℕ → ℕ → ℕ → ℕ → ℕ → Type 0
IsThere year month day hour minute second = IsDate (pos year) (pos month) (pos day) × IsTime (pos hour) (pos minute) (pos second) (pos 0)

-- the moment of these numbers, exactly where the library has them
abbrev pub IsMoment : ℕ → ℕ → ℕ → ℕ → ℕ → ℕ → Option DateTime → Type 0
IsMoment year month day hour minute second result =
    MatchOption result (¬ (IsThere year month day hour minute second))
    (λ moment. IsThere year month day hour minute second × IsYmd (pos year) (pos month) (pos day) moment.date × IsHms (pos hour) (pos minute) (pos second) (pos 0) moment.time)
