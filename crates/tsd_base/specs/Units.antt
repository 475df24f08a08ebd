-- Units of time.
use Rattle.std.specs.Prelude.{ℕ, List, codes, Option, None, Some, if◌then◌else◌}
use Rattle.tsd_base.specs.Tags.{is_same}

-- how many milliseconds the unit of this name has
abbrev pub unit_millis : List ℕ → Option ℕ
unit_millis name =
    if is_same name (codes "ms") then Some 1
    else if is_same name (codes "s") then Some 1000
    else if is_same name (codes "m") then Some 60000
    else if is_same name (codes "h") then Some 3600000
    else if is_same name (codes "d") then Some 86400000
    else if is_same name (codes "w") then Some 604800000
    else if is_same name (codes "n") then Some 2592000000
    else if is_same name (codes "y") then Some 31536000000
    else None
