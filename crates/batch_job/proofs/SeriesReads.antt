-- Texts whose parts read as a series.
use Rattle.std.proofs.Common.{◌≡◌, ℕ, List, Ok, Some, None, Option, sym, ap, ◌∙◌}
use Rattle.std.specs.Prelude.{IfSome, IsSomeAnd}
use Rattle.tsd_base.specs.declared.text_parts.TextParts.{TextParts}
use Rattle.tsd_base.specs.Names.{name_of}
use Rattle.tsd_base.specs.Points.{DataPoint, point_of}
use Rattle.tsd_base.specs.TextParts.{HasTextParts, tags_read}
use Rattle.tsd_base.proofs.TextReads.{text_reads, series_reads}
use Rattle.batch_job.specs.SeriesTexts.{IsKnownBy, IsTextOf, ReadAs, ReadsAs}
use Rattle.batch_job.specs.SeriesValues.{Series, series_of_point}
use Rattle.batch_job.specs.declared.series_text.SeriesText.{SeriesText}

-- the point of a series at the time of the parts
abbrev pub point_in : Series → TextParts → DataPoint
point_in s parts = record { metric = s.0.0; tags = s.0.1; time = parts.time; fine = parts.fine; value = parts.value }

-- a text whose parts read as a series is its point
pub text_reads_in : (text : List ℕ) (parts : TextParts) (s : Series) → HasTextParts text parts → ReadAs parts s → point_of text ≡ Ok (point_in s parts)
text_reads_in text parts s h r = text_reads text parts s.0.0 s.0.1 h (record { name_is = r.metric_is; tags_are = r.tags_are })

-- and the parts of a point's text read as its series
pub series_read : (text : List ℕ) (parts : TextParts) (p : DataPoint) → HasTextParts text parts → point_of text ≡ Ok p → ReadAs parts (series_of_point p)
series_read text parts p h e =
    let r = series_reads text parts p h e in
    record { metric_is = r.0.name_is; tags_are = r.0.tags_are; form = r.1 }

-- a text that reads as the series is that of the parts
pub parts_read_as : (parts : TextParts) (s : Series) (text : Option SeriesText) → IsKnownBy s text → IsSomeAnd text (IsTextOf parts) → ReadAs parts s
parts_read_as parts s None known one = absurd one
parts_read_as parts s (Some t) known one = record {
  metric_is = ap name_of (sym one.metric_is) ∙ known.metric_is;
  tags_are = ap tags_read (sym one.tags_are) ∙ known.tags_are;
  form = sym one.form ∙ known.form;
}

-- a text of the parts reads as the series of the parts
pub text_known : (parts : TextParts) (s : Series) (text : SeriesText) → IsTextOf parts text → ReadAs parts s → ReadsAs s text
text_known parts s text t r = record {
  metric_is = ap name_of t.metric_is ∙ r.metric_is;
  tags_are = ap tags_read t.tags_are ∙ r.tags_are;
  form = t.form ∙ r.form;
}

-- where a text of the parts is kept, it reads as the series of the point that was read
pub known_by : (text : List ℕ) (parts : TextParts) (known : Option SeriesText) → HasTextParts text parts → IfSome known (IsTextOf parts) → (p : DataPoint) → point_of text ≡ Ok p → IsKnownBy (series_of_point p) known
known_by text parts None h t p e = tt
known_by text parts (Some k) h t p e = text_known parts (series_of_point p) k t (series_read text parts p h e)
