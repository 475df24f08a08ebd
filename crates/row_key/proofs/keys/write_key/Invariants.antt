use Rattle.std.proofs.Common.{◌≡◌, ◌+◌, ◌*◌, ◌≤◌, ◌++◌, length, take}
use Rattle.std.specs.List.{flat_map}
use Rattle.row_key.specs.Key.{hour_bytes, pair_bytes}
use Rattle.row_key.proofs.keys.write_key.Given as goal

abbrev pub invariant-loop-pair : goal.invariant-loop-pair
invariant-loop-pair l =
    (l.row.items ≡ hour_bytes l.widths l.key.metric l.key.base ++ flat_map (pair_bytes l.widths) (take l.pair-index l.pair-items)) × (length l.row.items ≤ 8 + 8 * l.pair-index)
