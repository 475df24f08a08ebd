-- What a caller's proof cites of keys, where the functions of `laws` can't be called.
use Rattle.std.proofs.Common.{◌≡◌, ◌+◌, ◌*◌, ◌≤◌, length, mul-le-mul_right, arith}
use Rattle.row_key.specs.declared.keys.RowKey.{RowKey}
use Rattle.row_key.specs.declared.widths.Widths.{Widths}
use Rattle.row_key.specs.Key.{IsKey, hour_len, key_bytes, pair_len}
use Rattle.row_key.specs.KeyOrder.{HoursAreRange, KeysAreUnique, RowsFollowKeys}
use Rattle.row_key.specs.Regions.{MetricsAreWhole, RegionsEnd}
use Rattle.row_key.proofs.Once.{length_of_key, unique_keys}
use Rattle.row_key.proofs.Comparing.{hours_are_between, keys_compare}
use Rattle.row_key.proofs.Homes.{few_regions, whole_metrics}
-- what holds of two, three and four bytes holds of each width; how many bytes an id has, and that they tell one id
pub use Rattle.row_key.proofs.EachWidth.{at_width, fits_four, length_bytes, one_front}
-- widths of the same numbers are one, so those of three bytes each are
pub use Rattle.row_key.proofs.OneWidths.{one_widths, has_three}

-- two keys of one row are one
pub one_key : KeysAreUnique
one_key = unique_keys

-- rows are compared by their keys
pub rows_by_keys : RowsFollowKeys
rows_by_keys = keys_compare

-- the rows of some hours of a metric are those between two
pub hours_between : HoursAreRange
hours_between = hours_are_between

-- how many bytes a key has: they fit an array of 72
pub key_length : (w : Widths) (key : RowKey) → length (key_bytes w key) ≡ hour_len w + length key.pairs.items * pair_len w
key_length = length_of_key

pub key_fits : (w : Widths) (key : RowKey) → IsKey w key → length (key_bytes w key) ≤ 72
key_fits w key is =
    let most = mul-le-mul_right (pair_len w) is.most in
    omega (arith, length_of_key w key, w.metric_fits.1, w.key_fits.1, w.value_fits.1, most)

-- each row has one of the regions
pub regions_end : RegionsEnd
regions_end = few_regions

-- the rows of a metric are in one region
pub metrics_are_whole : MetricsAreWhole
metrics_are_whole = whole_metrics
