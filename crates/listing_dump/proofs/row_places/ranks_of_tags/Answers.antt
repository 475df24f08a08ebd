use Rattle.std.proofs.Common.{ℕ, ◌+◌, ap, ◌∙◌}
use Rattle.listing_dump.proofs.Turns.{ranked_more, ranked_whole, tag_here}
use Rattle.listing_dump.proofs.row_places.ranks_of_tags.Goals as goal

pub rank_of-key-requires : goal.rank_of-key-requires
rank_of-key-requires c = (tag_here c.args.ranks.now c.args.pairs.now c.loop-pair.pair-index _ c.requires.ranks c.loop-pair-test.true).0

pub rank_of-value-requires : goal.rank_of-value-requires
rank_of-value-requires c = (tag_here c.args.ranks.now c.args.pairs.now c.loop-pair.pair-index _ c.requires.ranks c.loop-pair-test.true).1

pub loop-pair-preserved : goal.loop-pair-preserved
loop-pair-preserved c = record {
  ranked = ranked_more c.args.ranks.now c.args.pairs.now c.loop-pair.pair-index _ (c.rank_of-key.result, c.rank_of-value.result) c.loop-pair.tags.items c.push.new.self.items c.loop-pair-test.true c.loop-pair.invariant.ranked
      (c.rank_of-key.ensures, c.rank_of-value.ensures) c.push.ensures.items;
  len = c.push.ensures.len ∙ ap (λ (n : ℕ). n + 1) c.loop-pair.invariant.len;
}

pub returns : goal.returns
returns c = ranked_whole c.args.ranks.now c.args.pairs.now c.loop-pair.pair-index c.loop-pair.tags.items c.loop-pair-test.false c.loop-pair.invariant.ranked
