use Rattle.json_reply.specs.Texts.{tag_text}
use Rattle.json_reply.proofs.Listing.{listed_next}
use Rattle.json_reply.proofs.json_text.write_tags.Goals as goal

pub loop-index-preserved : goal.loop-index-preserved
loop-index-preserved c = listed_next tag_text c.args.tags.now c.loop-index.index c.index-tags-index.result _ _ _ _ c.loop-index-test.true c.index-tags-index.is c.loop-index.invariant c.in_ok-write_comma.ensures c.in_ok-write_tag.ensures
