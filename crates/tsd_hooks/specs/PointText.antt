-- A point as a line of text.
use Rattle.std.specs.Prelude.{ℕ, ◌-◌, ◌/◌, ◌%◌, Bool, List, ◌∷◌, ◌++◌, [], decimal, length, replicate, if◌then◌else◌}
use Rattle.std.specs.List.{flat_map}
use Rattle.std.specs.Fmt.{signed_decimal}
use Rattle.tsd_base.specs.TagList.{Pair}
use Rattle.tsd_base.specs.Points.{DataPoint}

-- a number in so many digits, with zeros in front
abbrev pub padded : ℕ → ℕ → List ℕ
padded count n = replicate (count - length (decimal n)) 48 ++ decimal n

-- a time of milliseconds: its seconds, or ten digits of seconds and three of milliseconds
abbrev pub time_text : ℕ → Bool → List ℕ
time_text time fine = if fine then padded 10 (time / 1000) ++ (46 ∷ padded 3 (time % 1000)) else decimal (time / 1000)

-- a space, a key, = and a value, for each tag
abbrev pub tags_text : List Pair → List ℕ
tags_text tags = flat_map (λ (t : Pair). 32 ∷ (t.0 ++ 61 ∷ t.1)) tags

-- metric, time, value and tags
abbrev pub point_text : DataPoint → List ℕ
point_text p = p.metric ++ 32 ∷ (time_text p.time p.fine ++ 32 ∷ (signed_decimal p.value ++ (tags_text p.tags ++ 10 ∷ [])))
