-- The widths that are made.
use Rattle.std.specs.Prelude.{◌≡◌, ℕ, Option, Some, None}
use Rattle.std.proofs.Common.{lit≤}
use Rattle.row_key.specs.IdWidths.{IsWidth}
use Rattle.row_key.specs.declared.widths.Widths.{Widths}

-- each kind's ids have so many bytes
pub record Has (metric tag_key tag_value : ℕ) (w : Widths) : Type 0 where
  pub metric_is : w.metric ≡ metric
  pub key_is : w.tag_key ≡ tag_key
  pub value_is : w.tag_value ≡ tag_value

-- there are such widths exactly where each number is one
abbrev pub Makes : ℕ → ℕ → ℕ → Option Widths → Type 0
Makes metric tag_key tag_value None = IsWidth metric × IsWidth tag_key × IsWidth tag_value → ⊥
Makes metric tag_key tag_value (Some w) = Has metric tag_key tag_value w

-- three bytes for each kind
abbrev pub three : Widths
three = record { metric = 3; tag_key = 3; tag_value = 3; metric_fits = (lit≤ tt, lit≤ tt); key_fits = (lit≤ tt, lit≤ tt); value_fits = (lit≤ tt, lit≤ tt) }
