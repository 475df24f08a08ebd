use Rattle.group_by.specs.TagFilters.{is_grouped}
use Rattle.group_by.proofs.RisingTags.{pairs_rise}
use Rattle.group_by.proofs.tag_filters.group_key.Goals as goal

pub returns-clause-rise : goal.returns-clause-rise
returns-clause-rise c =
    pairs_rise (λ pair. is_grouped c.args.sub.now pair.0) c.args.tags.now c.pairs-pair-items.result.now c.loop-pair.pair-index c.pairs-pair-items.ensures.pairs c.pairs-pair-items.ensures.are_tags c.loop-pair-test.false c.loop-pair.key.items c.loop-pair.invariant
