use Rattle.std.proofs.Common.{◌≡◌, ◌*◌, drop}
use Rattle.list_lemmas.specs.BytesOrder.{bytes_cmp}
use Rattle.short_bytes.proofs.blocks.order_lists.Given as goal

abbrev pub invariant-loop-i : goal.invariant-loop-i
invariant-loop-i l = bytes_cmp l.one l.other ≡ bytes_cmp (drop (l.i * 8) l.one) (drop (l.i * 8) l.other)
