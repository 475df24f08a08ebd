use Rattle.std.proofs.Common.{◌≡◌, ◌++◌, take}
use Rattle.tsd_hooks.specs.PointText.{tags_text}
use Rattle.listing_dump.proofs.point_line.push_tags.Given as goal

abbrev pub invariant-loop-pair : goal.invariant-loop-pair
invariant-loop-pair l = l.text.items ≡ l.fn.text.items ++ tags_text (take l.pair-index l.pairs)
