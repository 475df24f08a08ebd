use Rattle.std.proofs.Common.{◌≡◌, ℕ, ◌∙◌, List, Less, ap}
use Rattle.list_lemmas.specs.BytesOrder.{bytes_cmp}
use Rattle.group_by.proofs.RisingTags.{none_rise, keys_rise}
use Rattle.group_by.proofs.shared_tags.aggregate_keys.Goals as goal
use Rattle.group_by.proofs.shared_tags.aggregate_keys.Goals.{in_default, in-len1-up+else-loop-pair-test}

pub returns-clause-rise : goal.returns-clause-rise
returns-clause-rise c =
    elim c.if-series-lt1.branch [
      | in_default w ↦ none_rise (λ (x y : List ℕ). bytes_cmp x y ≡ Less) c.if-series-lt1.keys.items (ap (λ v. v.items) w.keys-is ∙ c.new-keys.ensures.items)
      | in-len1-up+else-loop-pair-test w ↦ keys_rise _ w.first-item.result w.pairs-pair-items.result.now w.loop-pair.pair-index w.pairs-pair-items.ensures.pairs w.pairs-pair-items.ensures.are_tags w.loop-pair-test.false c.if-series-lt1.keys.items (ap (λ v. v.items) w.keys-is ∙ w.loop-pair.invariant)
    ]
