use Rattle.json_reply.specs.Texts.{quoted}
use Rattle.json_reply.proofs.Listing.{listed_next}
use Rattle.json_reply.proofs.json_text.write_keys.Goals as goal

pub loop-index-preserved : goal.loop-index-preserved
loop-index-preserved c = listed_next quoted c.args.keys.now c.loop-index.index c.index-keys-index.result _ _ _ _ c.loop-index-test.true c.index-keys-index.is c.loop-index.invariant c.in_ok-write_comma.ensures c.in_ok-write_name.ensures
