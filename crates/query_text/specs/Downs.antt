-- Downsamples in text.
use Rattle.std.specs.Prelude.{◌≡◌, ℕ, ◌*◌, ◌%◌, ◌≤◌, Bool, false, ◌&&◌, ◌||◌, nat_eq, nat_le, List, codes, take, drop, Option, None, Some, if◌then◌else◌}
use Rattle.std.specs.Char.{is_ascii_digit}
use Rattle.std.specs.List.{prefix_len}
use Rattle.std.specs.Str.Parse.{digits_value}
use Rattle.tsd_base.specs.Digits.{is_number}
use Rattle.tsd_base.specs.Tags.{is_same}
use Rattle.tsd_base.specs.declared.kinds.Function.{Function}
use Rattle.tsd_base.specs.declared.kinds.Function.TheVariants.{Sum, Min, Max, Avg, Count, First, Last, Zimsum, Mimmin, Mimmax}
use Rattle.tsd_base.specs.declared.kinds.Fill.{Fill}
use Rattle.tsd_base.specs.declared.kinds.Fill.TheVariants.{NoFill, Zero}
use Rattle.tsd_base.specs.declared.kinds.Down.{Down}
use Rattle.tsd_base.specs.Units.{unit_millis}
use Rattle.tsd_base.specs.declared.units.TheConstants.{MOST_UNITS}
use Rattle.tsd_base.specs.declared.times.TheConstants.{LAST_TIME}
use Rattle.query_text.specs.Cuts.{before, behind}

-- the function with this name
abbrev pub function_named : List ℕ → Option Function
function_named name =
    if is_same name (codes "sum") then Some Sum
    else if is_same name (codes "min") then Some Min
    else if is_same name (codes "max") then Some Max
    else if is_same name (codes "avg") then Some Avg
    else if is_same name (codes "count") then Some Count
    else if is_same name (codes "first") then Some First
    else if is_same name (codes "last") then Some Last
    else if is_same name (codes "zimsum") then Some Zimsum
    else if is_same name (codes "mimmin") then Some Mimmin
    else if is_same name (codes "mimmax") then Some Mimmax
    else None

-- the fill with this name; where none is named there is none
abbrev pub fill_named : List ℕ → Option Fill
fill_named name =
    if is_same name (codes "none") then Some NoFill
    else if is_same name (codes "zero") then Some Zero
    else None

abbrev pub fill_of : Option (List ℕ) → Option Fill
fill_of None = Some NoFill
fill_of (Some name) = fill_named name

-- a number of units from 1 to the greatest, up to the last time
abbrev pub is_interval : ℕ → ℕ → Bool
is_interval n unit = nat_le 1 n && (nat_le n MOST_UNITS && nat_le (n * unit) LAST_TIME)

abbrev pub interval_by : List ℕ → Option ℕ → Option ℕ
interval_by number None = None
interval_by number (Some unit) = if is_number number && is_interval (digits_value 10 number) unit then Some (digits_value 10 number * unit) else None

-- digits, and behind them a unit
abbrev pub interval_of : List ℕ → Option ℕ
interval_of text = interval_by (take (prefix_len is_ascii_digit text) text) (unit_millis (drop (prefix_len is_ascii_digit text) text))

abbrev pub down_by : Bool → Option ℕ → Option Function → Option Fill → Option Down
down_by ms (Some interval) (Some function) (Some fill) = if ms || nat_eq (interval % 1000) 0 then Some (record { interval = interval; function = function; fill = fill }) else None
down_by ms (Some interval) (Some function) None = None
down_by ms (Some interval) None fill = None
down_by ms None function fill = None

abbrev pub down_in : Bool → Option ℕ → Option (List ℕ) → Option Down
down_in ms interval None = None
down_in ms interval (Some shape) = down_by ms interval (function_named (before 45 shape)) (fill_of (behind 45 shape))

-- An interval, a function and perhaps a fill, with a `-` between them; whole seconds where times aren't told in milliseconds.
abbrev pub down_of : Bool → List ℕ → Option Down
down_of ms text = down_in ms (interval_of (before 45 text)) (behind 45 text)

-- an interval of at least one millisecond, and of whole seconds where times aren't told in milliseconds
pub record IsInterval (ms : Bool) (interval : ℕ) : Type 0 where
  pub some : 1 ≤ interval
  pub whole : ms ≡ false → interval % 1000 ≡ 0
