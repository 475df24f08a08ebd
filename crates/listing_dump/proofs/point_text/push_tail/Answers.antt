use Rattle.listing_dump.proofs.Turns.{tags_more}
use Rattle.listing_dump.proofs.point_text.push_tail.Goals as goal

pub loop-tag-preserved : goal.loop-tag-preserved
loop-tag-preserved c =
    tags_more c.args.cells.now c.args.tags.now c.loop-tag.tag-index _ c.args.text.now.items c.loop-tag.text.items c.push_tag.new.text.items c.row_at.result.now c.row_at-in-loop-tag.result.now c.loop-tag-test.true c.row_at.ensures c.row_at-in-loop-tag.ensures
    c.loop-tag.invariant c.in_ok-push_tag.ensures
