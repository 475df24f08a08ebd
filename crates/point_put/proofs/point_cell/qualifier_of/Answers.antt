use Rattle.std.proofs.Common.{ℕ, ◌%◌, List, [], ◌∷◌, length, sym, subst, ◌∙◌, arith}
use Rattle.row_hours.specs.declared.hours.TheConstants.{HOUR_MILLIS}
use Rattle.qual_codec.specs.CellDots.{IsDots}
use Rattle.qual_codec.specs.Spelling.{dot_of}
use Rattle.point_put.proofs.point_cell.qualifier_of.Goals as goal

pub returns : goal.returns
returns c =
    let p = c.args.point.now in
    let back = c.points_read_back.ensures (p.time % HOUR_MILLIS) p.fine p.value c.args.value.now (omega arith) (λ coarse. let whole = p.timed.whole coarse in omega (arith, whole)) c.requires in
    subst (λ (q : List ℕ). IsDots q c.args.value.now (dot_of (p.time % HOUR_MILLIS) p.fine p.value (length c.args.value.now) ∷ [])) (sym (c.short.ensures ∙ c.as_slice.ensures.value ∙ c.pack_item-bytes.ensures)) back
