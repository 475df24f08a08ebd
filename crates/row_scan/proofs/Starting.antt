-- Where a scan starts and ends.
use Rattle.std.proofs.Common.{◌≡◌, ℕ, ◌+◌, ◌-◌, ◌%◌, ◌^◌, ◌<◌, ◌≤◌, min, List, refl, sym, ap, subst, arith}
use Rattle.std.specs.Prelude.{IsTrue}
use Rattle.std.specs.Ordering.{is_lt}
use Rattle.row_hours.specs.declared.hours.TheConstants.{HOUR}
use Rattle.row_key.specs.declared.widths.Widths.{Widths}
use Rattle.row_key.specs.declared.keys.RowKey.{RowKey}
use Rattle.row_key.specs.declared.tables.Table.TheVariants.{Points}
use Rattle.row_key.specs.Key.{IsKey, key_bytes, hour_bytes, most_ids}
use Rattle.cell_model.specs.declared.row.Row.{Row}
use Rattle.cell_model.specs.Store.{is_between}
use Rattle.cell_model.specs.Readings.{point_row}
use Rattle.row_scan.specs.Scans.{Left, IsRowOf, IsStart}
use Rattle.list_lemmas.proofs.BoolTests.{less_if}
use Rattle.row_scan.proofs.NextRow.{between, between_is}
use Rattle.row_scan.proofs.Lower.{hours_between}

-- no hour begins at the last second
below_end : (base last end : ℕ) → base % HOUR ≡ 0 → base < 2 ^ 32 → base ≤ last → end ≡ min (last + 1) (2 ^ 32 - 1) → base < end
below_end base last end hour small le is = omega (arith, hour, small, le, is)

up_to_last : (base last end : ℕ) → base < end → end ≡ min (last + 1) (2 ^ 32 - 1) → base ≤ last
up_to_last base last end lt is = omega (arith, lt, is)

pub starts : (w : Widths) (metric first last end : ℕ) (left : Left) → left.widths ≡ w → metric ≤ most_ids w.metric → first < 2 ^ 32 → end < 2 ^ 32 → end ≡ min (last + 1) (2 ^ 32 - 1) → left.from ≡ hour_bytes w metric first → left.to ≡ hour_bytes w metric end → IsStart w metric first last left
starts w metric first last end left widths_are small fits end_fits end_is from_is to_is = record { widths_are = widths_are; all = all; only = only }
  where
    all : (row : Row) → IsRowOf w metric first last row → IsTrue (is_between Points left.from left.to row)
    all row r =
        let range = (hours_between w r.key metric first end r.is_key small fits end_fits).1 (r.metric_is, r.from_on, below_end r.key.base last end r.is_key.hour r.is_key.base r.up_to end_is) in
        subst (λ (x : Row). IsTrue (is_between Points left.from left.to x)) (sym r.row_is)
        (subst (λ (x : List ℕ). IsTrue (is_between Points x left.to (point_row (key_bytes w r.key)))) (sym from_is)
        (subst (λ (x : List ℕ). IsTrue (is_between Points (hour_bytes w metric first) x (point_row (key_bytes w r.key)))) (sym to_is)
        (between_is (hour_bytes w metric first) (hour_bytes w metric end) (point_row (key_bytes w r.key)) (record { in_points = refl; from_on = range.0; below = ap is_lt range.1 }))))

    only : (key : RowKey) → IsKey w key → IsTrue (is_between Points left.from left.to (point_row (key_bytes w key))) → IsRowOf w metric first last (point_row (key_bytes w key))
    only key is_key t =
        let b = between (hour_bytes w metric first) (hour_bytes w metric end) (point_row (key_bytes w key))
        (subst (λ (x : List ℕ). IsTrue (is_between Points x (hour_bytes w metric end) (point_row (key_bytes w key)))) from_is (subst (λ (x : List ℕ). IsTrue (is_between Points left.from x (point_row (key_bytes w key)))) to_is t)) in
        let inside = (hours_between w key metric first end is_key small fits end_fits).0 (b.from_on, less_if _ b.below) in
        record { key = key; is_key = is_key; row_is = refl; metric_is = inside.0; from_on = inside.1; up_to = up_to_last key.base last end inside.2 end_is }
