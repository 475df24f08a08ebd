-- The ids of a kind fit its width.
use Rattle.std.proofs.Common.{◌≡◌, ℕ, ◌≤◌, ◌∷◌, sym, ap, ap₂, ◌∙◌, arith}
use Rattle.std.specs.Prelude.{Some}
use Rattle.std.specs.Int.{w32, byte_at, from_be_bytes}
use Rattle.std.proofs.lemmas.Nat.{from_be_bytes-to_be_bytes_4}
use Rattle.row_key.proofs.CallerLemmas.{at_width}
use Rattle.tsd_base.specs.declared.kinds.Kind.{Kind}
use Rattle.tsd_base.specs.declared.kinds.Kind.TheVariants.{Metric, TagKey, TagValue}
use Rattle.cell_model.specs.KindWidths.{Widths, IsWidth, greatest, id_bytes, kind_bytes, most_ids, width_of}
use Rattle.cell_model.specs.IdRows.{id_number}

-- each kind's width is one
pub kind_fits : (w : Widths) (kind : Kind) → IsWidth (width_of w kind)
kind_fits w Metric = w.metric_fits
kind_fits w TagKey = w.key_fits
kind_fits w TagValue = w.value_fits

-- each id fits four bytes
pub greatest_fits : (w : Widths) (kind : Kind) → greatest w kind ≤ 4294967295
greatest_fits w kind = at_width (λ n. most_ids n ≤ 4294967295) (omega arith) (omega arith) (omega arith) (width_of w kind) (kind_fits w kind)

-- the number of an id's bytes is the id
abbrev ReadsBack : ℕ → Type 0
ReadsBack width = (id : ℕ) → id ≤ most_ids width → id_number (id_bytes width id) ≡ Some id

two_back : ReadsBack 2
two_back id most =
    let top : byte_at 3 id ≡ 0 = omega (arith, most) in
    let high : byte_at 2 id ≡ 0 = omega (arith, most) in
    ap₂ (λ a b. Some (from_be_bytes w32 (a ∷ b ∷ id_bytes 2 id))) (sym top) (sym high) ∙ ap Some (from_be_bytes-to_be_bytes_4 id (omega (arith, most)))

three_back : ReadsBack 3
three_back id most =
    let top : byte_at 3 id ≡ 0 = omega (arith, most) in
    ap (λ b. Some (from_be_bytes w32 (b ∷ id_bytes 3 id))) (sym top) ∙ ap Some (from_be_bytes-to_be_bytes_4 id (omega (arith, most)))

four_back : ReadsBack 4
four_back id most = ap Some (from_be_bytes-to_be_bytes_4 id (omega (arith, most)))

pub number-bytes : (w : Widths) (kind : Kind) (id : ℕ) → id ≤ greatest w kind → id_number (kind_bytes w kind id) ≡ Some id
number-bytes w kind = at_width ReadsBack two_back three_back four_back (width_of w kind) (kind_fits w kind)
