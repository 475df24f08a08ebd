use Rattle.std.proofs.Common.{◌≡◌, ◌+◌, ◌-◌, ◌<◌, ◌∙◌, [], get_or, length, sym, ap, subst, arith}
use Rattle.std.proofs.lemmas.List.{get_or_default}
use Rattle.lerp_aggregate.specs.Walks.{StandsAt}
use Rattle.lerp_aggregate.proofs.Bundling.{made_more}
use Rattle.lerp_aggregate.proofs.cursors.Bundle.start.Goals as goal

pub loop-index-preserved : goal.loop-index-preserved
loop-index-preserved c =
    let list = c.args.list.now in
    let first = c.args.first in
    let index = c.loop-index.index in
    let begun = c.loop-index.invariant.begun in
    let cursor = c.start-cursor.result in
    let series = c.index-list-index.result in
    let inside : index < length list = omega arith in
    let index_is : cursor.index ≡ index = c.start-cursor.ensures.index in
    let at : series ≡ get_or list cursor.index [] = c.index-list-index.is ∙ get_or_default list index series [] inside ∙ ap (λ k. get_or list k []) (sym index_is) in
    let stands = subst (λ s. StandsAt s 0 cursor) at (subst (λ s. StandsAt s 0 cursor) c.list.ensures.list c.start-cursor.ensures.stands) in
    record {
      begun = omega arith;
      made = made_more list first (index - first) (index + 1 - first) c.loop-index.cursors.items c.push.new.self.items cursor c.loop-index.next c.earlier-next.result c.loop-index.invariant.made (omega arith) (omega arith) (omega (arith, index_is)) (omega (arith, index_is), stands) c.in_ok-push.ensures.items c.earlier-next.ensures;
    }
