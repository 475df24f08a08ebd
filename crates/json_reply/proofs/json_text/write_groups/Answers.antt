use Rattle.json_reply.specs.Replies.{group_text, plain}
use Rattle.json_reply.proofs.Listing.{listed_more}
use Rattle.json_reply.proofs.json_text.write_groups.Goals as goal

pub loop-index-preserved : goal.loop-index-preserved
loop-index-preserved c = listed_more group_text plain c.args.groups.now c.loop-index.index c.index-groups-index.result _ _ _ _ c.loop-index-test.true c.index-groups-index.is c.loop-index.invariant c.in_ok-write_comma.ensures c.in_ok-write_group.ensures
