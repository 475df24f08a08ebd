-- What of a text tells the series.
use Rattle.std.specs.Prelude.{◌≡◌, Ok, Option, IfSome}
use Rattle.tsd_base.specs.declared.text_parts.TextParts.{TextParts}
use Rattle.tsd_base.specs.Names.{name_of}
use Rattle.tsd_base.specs.TextParts.{tags_read}
use Rattle.batch_job.specs.SeriesValues.{Series}
use Rattle.batch_job.specs.declared.series_text.SeriesText.{SeriesText}

-- the text has what tells the series in these parts
pub record IsTextOf (parts : TextParts) (text : SeriesText) : Type 0 where
  pub metric_is : text.metric ≡ parts.metric.now
  pub tags_are : text.tags ≡ parts.tags.now
  pub form : text.fine ≡ parts.fine

-- the parts read as the series
pub record ReadAs (parts : TextParts) (s : Series) : Type 0 where
  pub metric_is : name_of parts.metric.now ≡ Ok s.0.0
  pub tags_are : tags_read parts.tags.now ≡ Ok s.0.1
  pub form : parts.fine ≡ s.1

-- the text reads as the series
pub record ReadsAs (s : Series) (text : SeriesText) : Type 0 where
  pub metric_is : name_of text.metric ≡ Ok s.0.0
  pub tags_are : tags_read text.tags ≡ Ok s.0.1
  pub form : text.fine ≡ s.1

-- where there is a text, it reads as the series
abbrev pub IsKnownBy : Series → Option SeriesText → Type 0
IsKnownBy s text = IfSome text (ReadsAs s)
