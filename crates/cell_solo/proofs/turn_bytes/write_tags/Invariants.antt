use Rattle.std.proofs.Common.{◌≡◌, ◌≤◌, ◌+◌, ◌*◌, ◌++◌, take, length, vec_len, vec_capacity}
use Rattle.cell_solo.specs.TurnNames.{told_tags}
use Rattle.cell_solo.proofs.turn_bytes.write_tags.Given as goal

abbrev pub invariant-loop-pair : goal.invariant-loop-pair
invariant-loop-pair l = record {
  items : l.block.items ≡ l.initial.block.items ++ told_tags (take l.pair-index l.pairs);
  len : vec_len l.block ≤ vec_len l.initial.block + 512 * l.pair-index;
  capacity : vec_capacity l.initial.block ≤ vec_capacity l.block;
  within : l.pair-index ≤ length l.pairs;
}
