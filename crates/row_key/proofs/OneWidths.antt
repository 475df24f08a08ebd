-- Widths of the same numbers are one.
use Rattle.std.proofs.Common.{◌≡◌, ℕ, ◌≤◌, ◌∙◌, refl, sym, subst}
use Rattle.std.proofs.Math.Bridge.{le_prop}
use mathlib.Core.HLevel.{is_prop→PathP}
use Rattle.row_key.specs.IdWidths.{IsWidth}
use Rattle.row_key.specs.Made.{Has, three}
use Rattle.row_key.specs.declared.widths.Widths.{Widths}

pub one_widths : (a b : Widths) → a.metric ≡ b.metric → a.tag_key ≡ b.tag_key → a.tag_value ≡ b.tag_value → a ≡ b
one_widths a b p q r = λ i. record {
  metric = p i;
  tag_key = q i;
  tag_value = r i;
  metric_fits = is_prop→PathP (λ j. IsWidth (p j)) (λ j. hlevel (le_prop)) a.metric_fits b.metric_fits i;
  key_fits = is_prop→PathP (λ j. IsWidth (q j)) (λ j. hlevel (le_prop)) a.key_fits b.key_fits i;
  value_fits = is_prop→PathP (λ j. IsWidth (r j)) (λ j. hlevel (le_prop)) a.value_fits b.value_fits i;
}

pub has_three : (w : Widths) → Has 3 3 3 w → w ≡ three
has_three w h = one_widths w three h.metric_is h.key_is h.value_is
