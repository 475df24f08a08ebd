-- Readings of one series and time are of one row.
use Rattle.std.proofs.Common.{◌≡◌, ℕ, ◌≤◌, ◌<◌, List, ◌++◌, sym, ap, subst, ◌∙◌, arith}
use Rattle.std.specs.Prelude.{Contains}
use Rattle.std.specs.List.{flat_map}
use Rattle.row_hours.specs.declared.hours.TheConstants.{LAST_OFFSET}
use Rattle.tsd_base.specs.declared.kinds.Kind.TheVariants.{Metric}
use Rattle.tsd_base.specs.TagList.{Pair}
use Rattle.row_key.specs.Key.{hour_bytes, pair_bytes}
use Rattle.qual_codec.specs.declared.cells.Dot.{Dot}
use Rattle.cell_model.specs.History.{History, store_after}
use Rattle.cell_model.specs.IdRows.{id_of, name_of}
use Rattle.cell_model.specs.Readings.{Reading, Meets, DotReads}
use Rattle.row_scan.proofs.Lower.{same_rising}
use Rattle.list_lemmas.proofs.BoolTests.{same_Some}
use Rattle.row_scan.proofs.Names.{StoodRow, metric_id, pair_ids}
use Rattle.row_scan.proofs.Offsets.{one_hour}

-- the same tags have the same ids
pairs_within : (h : History) (a b : List ℕ) (d e : Dot) (r s : Reading) → StoodRow h a → StoodRow h b → (x : DotReads (store_after h).widths (name_of h) a d r) → (y : DotReads (store_after h).widths (name_of h) b e s) → r.tags ≡ s.tags
    → (p : ℕ × ℕ) → Contains x.key.pairs.items p → Contains y.key.pairs.items p
pairs_within h a b d e r s sa sb x y tags p c =
    let t = x.tags_are.each p c in
    let w = y.tags_are.back t.0 (subst (λ (ts : List Pair). Contains ts t.0) tags t.1) in
    let mine = pair_ids h a d r sa x p c t.0 t.2 in
    let other = pair_ids h b e s sb y w.0 w.1 t.0 w.2 in
    let k = same_Some w.0.0 p.0 (sym other.0 ∙ mine.0) in
    let v = same_Some w.0.1 p.1 (sym other.1 ∙ mine.1) in
    let same : ◌≡◌ {A = ℕ × ℕ} w.0 p = λ i. (k i, v i) in
    subst (Contains y.key.pairs.items) same w.1

below_asym : (a b : ℕ × ℕ) → a.0 < b.0 → b.0 < a.0 → ⊥
below_asym a b x y = omega (arith, x, y)

pub one_row : (h : History) (a b : List ℕ) (d e : Dot) (r s : Reading) → StoodRow h a → StoodRow h b → d.item.offset ≤ LAST_OFFSET → e.item.offset ≤ LAST_OFFSET
    → DotReads (store_after h).widths (name_of h) a d r → DotReads (store_after h).widths (name_of h) b e s → Meets r s → a ≡ b
one_row h a b d e r s sa sb ld le x y m =
    let metric : x.key.metric ≡ y.key.metric = same_Some _ _ (sym (metric_id h a d r sa x) ∙ ap (id_of h Metric) m.metric ∙ metric_id h b e s sb y) in
    let hour : x.key.base ≡ y.key.base = one_hour x.key.base y.key.base d.item.offset e.item.offset x.is_key.hour y.is_key.hour ld le (sym x.time_is ∙ m.time ∙ y.time_is) in
    let pairs : x.key.pairs.items ≡ y.key.pairs.items = same_rising (λ (p q : ℕ × ℕ). p.0 < q.0) below_asym x.key.pairs.items y.key.pairs.items x.is_key.rising y.is_key.rising
    (pairs_within h a b d e r s sa sb x y m.tags) (pairs_within h b a e d s r sb sa y x (sym m.tags)) in
    x.row_is ∙ (λ i. hour_bytes (store_after h).widths (metric i) (hour i) ++ flat_map (pair_bytes (store_after h).widths) (pairs i)) ∙ sym y.row_is
