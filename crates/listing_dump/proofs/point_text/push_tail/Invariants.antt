use Rattle.std.proofs.Common.{◌≡◌, ◌++◌, take}
use Rattle.tsd_hooks.specs.PointText.{tags_text}
use Rattle.listing_dump.specs.RowPoints.{tags_at}
use Rattle.listing_dump.proofs.point_text.push_tail.Given as goal

abbrev pub invariant-loop-tag : goal.invariant-loop-tag
invariant-loop-tag l = l.text.items ≡ l.fn.text.items ++ tags_text (tags_at l.cells (take l.tag-index l.tags))
