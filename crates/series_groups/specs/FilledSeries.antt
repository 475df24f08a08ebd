-- Series that are downsampled without a fill, and filled when they are aggregated.
use Rattle.std.specs.Prelude.{◌≡◌, ℕ, ℤ, List, length, map, All, IfSome, Option, None, Some, Vec, Result, Ok, Err}
use Rattle.std.specs.declared.alloc.Global.{Global}
use Rattle.tsd_base.specs.declared.kinds.Fill.{Fill}
use Rattle.tsd_base.specs.declared.kinds.Fill.TheVariants.{NoFill, Zero}
use Rattle.tsd_base.specs.declared.kinds.Down.{Down}
use Rattle.tsd_base.specs.TagList.{Pair}
use Rattle.lerp_aggregate.specs.FilledGroups.{IsOn, filled}
use Rattle.lerp_aggregate.specs.declared.aggregation.AggFault.{AggFault}
use Rattle.lerp_aggregate.specs.declared.aggregation.AggFault.TheVariants.{Overflow, OutOfMemory}
use Rattle.downsample.specs.Buckets.{all_buckets}
use Rattle.series_groups.specs.KeptSeries.{tags_kept}
use Rattle.series_groups.specs.NamedSeries.{AreEarly}
use Rattle.series_groups.specs.declared.named_series.Series.{Series}

-- a downsample without its fill
abbrev pub unfilled : Option Down → Option Down
unfilled None = None
unfilled (Some down) = Some (record down { fill = NoFill })

abbrev pub IsUnfilled : Option Down → Type 0
IsUnfilled how = IfSome how (λ down. down.fill ≡ NoFill)

-- series of buckets, each with a value in all of them where the fill is zero
abbrev pub filled_by : Fill → ℕ → ℕ → ℕ → List (List (ℕ × ℤ)) → List (List (ℕ × ℤ))
filled_by NoFill interval start end lists = lists
filled_by Zero interval start end lists = map (filled (all_buckets interval start end)) lists

abbrev pub filled_to : Option Down → ℕ → ℕ → List (List (ℕ × ℤ)) → List (List (ℕ × ℤ))
filled_to None start end lists = lists
filled_to (Some down) start end lists = filled_by down.fill down.interval start end lists

-- where the fill is zero, each point of the series is at one of the buckets
abbrev pub AreOnBy : Fill → ℕ → ℕ → ℕ → List (List (ℕ × ℤ)) → Type 0
AreOnBy NoFill interval start end lists = Unit {0}
AreOnBy Zero interval start end lists = All (IsOn (all_buckets interval start end)) lists

abbrev pub AreOn : Option Down → ℕ → ℕ → List (List (ℕ × ℤ)) → Type 0
AreOn None start end lists = Unit {0}
AreOn (Some down) start end lists = AreOnBy down.fill down.interval start end lists

-- the tags of the series, and their points, which are those that are wanted once they are filled
pub record AreUnfilled (how : Option Down) (start end : ℕ) (tags : List (List Pair)) (lists : List (List (ℕ × ℤ))) (series : List Series) (wanted : Result (List (List (ℕ × ℤ))) ℕ) : Type 0 where
  pub tags_are : tags ≡ tags_kept series
  pub are : wanted ≡ Ok (filled_to how start end lists)
  pub on : AreOn how start end lists
  pub early : All AreEarly lists
  pub count : length lists ≡ length series

-- those of the series, or the time that stands in place of the points; want of memory may always be told
abbrev pub GivesUnfilled : Option Down → ℕ → ℕ → Result (Vec (List Pair) Global × Vec (List (ℕ × ℤ)) Global) AggFault → List Series → Result (List (List (ℕ × ℤ))) ℕ → Type 0
GivesUnfilled how start end (Ok both) series wanted = AreUnfilled how start end both.0.items both.1.items series wanted
GivesUnfilled how start end (Err (Overflow time)) series wanted = wanted ≡ Err time
GivesUnfilled how start end (Err OutOfMemory) series wanted = Unit {0}
