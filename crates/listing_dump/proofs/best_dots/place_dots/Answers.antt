use Rattle.std.proofs.Common.{List, rules, subst}
use Rattle.std.specs.List.Sorted.{IsPermutation}
use Rattle.std.proofs.lemmas.List.Sorted.{answers_always}
use Rattle.listing_dump.specs.declared.best_dots.PlacedDot.{PlacedDot}
use Rattle.listing_dump.proofs.Bests.{placed_sorted}
use Rattle.listing_dump.proofs.best_dots.place_dots.Goals as goal

pub returns : goal.returns
returns c =
    let keys = answers_always _ _ _ (λ f a r next called. search rules) in
    placed_sorted c.args.dots.now c.sort_unstable_by_key.new.self.items
    (subst (λ (ps : List PlacedDot). IsPermutation ps c.sort_unstable_by_key.new.self.items) c.in_ok-placed.ensures c.sort_unstable_by_key.ensures.permutation)
    (c.sort_unstable_by_key.ensures.sorted (λ (p : PlacedDot). (p.dot.item.offset, p.place)) keys)
