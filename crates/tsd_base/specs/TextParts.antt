-- The parts of a text that may be a point, and what of them tells its series.
use Rattle.std.specs.Prelude.{◌≡◌, ℕ, List, ◌∷◌, Result, Ok}
use Rattle.tsd_base.specs.declared.points.PointFault.{PointFault}
use Rattle.tsd_base.specs.declared.points.PointFault.TheVariants as fault
use Rattle.tsd_base.specs.declared.text_parts.TextParts.{TextParts}
use Rattle.tsd_base.specs.Moments.{IsTime}
use Rattle.tsd_base.specs.Names.{name_of}
use Rattle.tsd_base.specs.Points.{pairs_of, told_as, ◌>>=◌}
use Rattle.tsd_base.specs.TagList.{Pair}
use Rattle.tsd_base.specs.Tags.{tags_of}
use Rattle.tsd_base.specs.Times.{time_of}
use Rattle.tsd_base.specs.Values.{value_of}
use Rattle.tsd_base.specs.Words.{words_of}

-- the first three words of the text, of which the second and the third read as this time and this value, and what stands behind them
pub record HasTextParts (text : List ℕ) (parts : TextParts) : Type 0 where
  pub time_text : List ℕ
  pub value_text : List ℕ
  pub words : words_of text ≡ parts.metric.now ∷ time_text ∷ value_text ∷ words_of parts.tags.now
  pub time_is : time_of time_text ≡ Ok (parts.time, parts.fine)
  pub value_is : value_of value_text ≡ Ok parts.value
  pub timed : IsTime parts.time parts.fine

-- the tags that a text reads as, or else the first fault
abbrev pub tags_read : List ℕ → Result (List Pair) PointFault
tags_read text = pairs_of 1 (words_of text) >>= λ pairs. told_as fault.Tags (tags_of pairs)

-- the texts read as this metric and these tags
pub record ReadsSeries (metric tags : List ℕ) (name : List ℕ) (pairs : List Pair) : Type 0 where
  pub name_is : name_of metric ≡ Ok name
  pub tags_are : tags_read tags ≡ Ok pairs
