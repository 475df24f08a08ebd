-- What a text adds to what was gathered.
use Rattle.std.specs.Prelude.{◌≡◌, ℕ, ℤ, Bool, true, false, List, [], ◌∷◌, ◌++◌, None, Some, if◌then◌else◌}
use Rattle.tsd_base.specs.Points.{DataPoint}
use Rattle.batch_job.specs.Pending.{AddsPoint, SoFar}
use Rattle.batch_job.specs.PendingSeries.{all_values}
use Rattle.batch_job.specs.PointLines.{Judged}
use Rattle.point_lines.specs.LinePoints.Judged.{Blank, Taken, Refused}
use Rattle.batch_job.specs.SeriesValues.{Series, SeriesEntry, is_same_series, values_in}
use Rattle.batch_job.specs.SeriesTexts.{ReadAs}
use Rattle.batch_job.specs.declared.pending_series.PendingSeries.{PendingSeries}
use Rattle.batch_job.specs.declared.point_line.LineOutcome.{LineOutcome}
use Rattle.batch_job.specs.declared.point_line.LineOutcome.TheVariants as outcome
use Rattle.tsd_base.specs.declared.text_parts.TextParts.{TextParts}

-- the series has one more value, behind those that it had, and the others have theirs
abbrev pub AddsValue : Series → List (ℕ × ℤ) → ℕ × ℤ → List SeriesEntry → List SeriesEntry → Type 0
AddsValue series values value old new = (s : Series) → values_in new s ≡ (if is_same_series series s then Some (values ++ value ∷ []) else values_in old s)

-- the series was there, and has one more value
pub record AddsAt (old : List (Series × PendingSeries)) (series : Series) (value : ℕ × ℤ) (new : List (Series × PendingSeries)) : Type 0 where
  pub values : List (ℕ × ℤ)
  pub found : values_in (all_values old) series ≡ Some values
  pub adds : AddsValue series values value (all_values old) (all_values new)

-- the series that the parts read as was there with these values, and has one more
pub record AddsToSeries (parts : TextParts) (old new : List SeriesEntry) : Type 0 where
  pub series : Series
  pub values : List (ℕ × ℤ)
  pub reads : ReadAs parts series
  pub found : values_in old series ≡ Some values
  pub adds : AddsValue series values (parts.time, parts.value) old new

-- the series was known, and has one more value; or nothing is changed
abbrev pub AddsKnown : TextParts → List SeriesEntry → Bool → List SeriesEntry → Type 0
AddsKnown parts old true new = AddsToSeries parts old new
AddsKnown parts old false new = new ≡ old

-- what a text was judged to be is what became of it; one that is refused changes nothing, as a blank one
abbrev pub AddsText : SoFar → Judged → LineOutcome → SoFar → Type 0
AddsText old judged outcome.Blank new = (judged ≡ Blank) × (new ≡ old)
AddsText old judged outcome.Taken new = (p : DataPoint) × (judged ≡ Taken p) × AddsPoint old p None new
AddsText old judged (outcome.Full kind) new = (p : DataPoint) × (judged ≡ Taken p) × AddsPoint old p (Some kind) new
AddsText old judged (outcome.Refused text) new = (judged ≡ Refused text.items) × (new ≡ old)
