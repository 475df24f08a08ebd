use Rattle.std.proofs.Common.{◌≡◌, ◌∙◌, Less, ap}
use Rattle.tsd_base.specs.TagList.{Pair}
use Rattle.list_lemmas.specs.BytesOrder.{bytes_cmp}
use Rattle.group_by.proofs.RisingTags.{none_rise, pairs_rise}
use Rattle.group_by.proofs.shared_tags.shared_pairs.Goals as goal
use Rattle.group_by.proofs.shared_tags.shared_pairs.Goals.{in_default, in-len1-up+else-loop-pair-test}

pub returns-clause-rise : goal.returns-clause-rise
returns-clause-rise c =
    elim c.if-series-lt1.branch [
      | in_default w ↦ none_rise (λ (p q : Pair). bytes_cmp p.0 q.0 ≡ Less) c.if-series-lt1.shared.items (ap (λ v. v.items) w.shared-is ∙ c.new-shared.ensures.items)
      | in-len1-up+else-loop-pair-test w ↦ pairs_rise _ w.first-item.result w.pairs-pair-items.result.now w.loop-pair.pair-index w.pairs-pair-items.ensures.pairs w.pairs-pair-items.ensures.are_tags w.loop-pair-test.false c.if-series-lt1.shared.items (ap (λ v. v.items) w.shared-is ∙ w.loop-pair.invariant)
    ]
