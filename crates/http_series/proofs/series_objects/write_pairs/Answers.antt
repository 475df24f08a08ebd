use Rattle.json_reply.specs.Texts.{tag_text}
use Rattle.http_series.proofs.Listing.{listed_next}
use Rattle.http_series.proofs.series_objects.write_pairs.Goals as goal

pub loop-index-preserved : goal.loop-index-preserved
loop-index-preserved c = listed_next tag_text c.args.pairs.now c.loop-index.index c.index-pairs-index.result _ _ _ _ c.loop-index-test.true c.index-pairs-index.is c.loop-index.invariant c.in_ok-write_comma.ensures c.in_ok-write_tag.ensures
