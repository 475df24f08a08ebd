-- The offsets of data points within their hour.
use Rattle.std.proofs.Common.{◌≡◌, ℕ, ◌+◌, ◌*◌, ◌%◌, ◌≤◌, List, arith}
use Rattle.std.specs.Prelude.{Contains}
use Rattle.row_hours.specs.declared.hours.TheConstants.{HOUR, LAST_OFFSET}
use Rattle.qual_codec.specs.declared.cells.Dot.{Dot}
use Rattle.qual_codec.specs.CellDots.{HoldsDots}
use Rattle.cell_model.specs.Layout.{base_time}
use Rattle.row_scan.proofs.Lower.{dot_good}

-- the offset of a data point is within the hour
pub dot_offset : (q v : List ℕ) (ds : List Dot) (d : Dot) → HoldsDots q v ds → Contains ds d → d.item.offset ≤ LAST_OFFSET
dot_offset q v ds d r c = (dot_good q v ds d r c).0.offset

-- a time has one hour
pub one_hour : (a b x y : ℕ) → a % HOUR ≡ 0 → b % HOUR ≡ 0 → x ≤ LAST_OFFSET → y ≤ LAST_OFFSET → a * 1000 + x ≡ b * 1000 + y → a ≡ b
one_hour a b x y ra rb lx ly e = omega (arith, ra, rb, lx, ly, e)

pub hour_is : (time base offset : ℕ) → base % HOUR ≡ 0 → offset ≤ LAST_OFFSET → time ≡ base * 1000 + offset → base_time time ≡ base
hour_is time base offset hour le is = omega (arith, hour, le, is)
