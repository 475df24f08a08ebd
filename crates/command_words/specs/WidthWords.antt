-- How many bytes the ids of each kind have, by their word.
use Rattle.std.specs.Prelude.{ℕ, ◌&&◌, nat_eq, [], ◌∷◌, Option, None, Some, if◌then◌else◌}
use Rattle.std.proofs.Common.{lit≤}
use Rattle.clap.specs.Walk.{Text}
use Rattle.row_key.specs.IdWidths.{IsWidth}
use Rattle.row_key.specs.Made.{three}
use Rattle.row_key.specs.declared.widths.Widths.{Widths}

-- how many bytes the ids of one kind have
pub record Width : Type 0 where
  pub bytes : ℕ
  pub fits : IsWidth bytes

-- the digits 2, 3 and 4
abbrev pub width_of : ℕ → Option Width
width_of digit =
    if nat_eq digit 50 then Some (record { bytes = 2; fits = (lit≤ tt, lit≤ tt) })
    else if nat_eq digit 51 then Some (record { bytes = 3; fits = (lit≤ tt, lit≤ tt) })
    else if nat_eq digit 52 then Some (record { bytes = 4; fits = (lit≤ tt, lit≤ tt) })
    else None

abbrev pub widths_with : Option Width → Option Width → Option Width → Option Widths
widths_with (Some metric) (Some tag_key) (Some tag_value) =
    Some (record { metric = metric.bytes; tag_key = tag_key.bytes; tag_value = tag_value.bytes; metric_fits = metric.fits; key_fits = tag_key.fits; value_fits = tag_value.fits })
widths_with _ _ _ = None

-- three digits with commas between them: of metrics, of tag keys and of tag values
abbrev pub widths_from : Text → Option Widths
widths_from (metric ∷ first ∷ tag_key ∷ second ∷ tag_value ∷ []) =
    if nat_eq first 44 && nat_eq second 44 then widths_with (width_of metric) (width_of tag_key) (width_of tag_value) else None
widths_from _ = None

-- three bytes each where nothing is said
abbrev pub widths_said : Option Text → Option Widths
widths_said (Some text) = widths_from text
widths_said None = Some three
