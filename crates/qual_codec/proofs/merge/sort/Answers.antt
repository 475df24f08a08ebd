use Rattle.std.proofs.Common.{rules}
use Rattle.std.proofs.lemmas.List.Sorted.{answers_always, IsNonDecreasingBy-from_sort}
use Rattle.qual_codec.specs.Merge.{offset_of}
use Rattle.qual_codec.proofs.Ranges.{are_sorted}
use Rattle.qual_codec.proofs.merge.sort.Goals as goal

pub returns-clause-rising : goal.returns-clause-rising
returns-clause-rising c =
    let keys = answers_always _ _ _ (λ f a r next called. search rules) in
    IsNonDecreasingBy-from_sort offset_of c.sort_by_key.new.self.items (c.in_ok-sort_by_key.ensures.sorted offset_of keys)

pub returns-clause-dots : goal.returns-clause-dots
returns-clause-dots c =
    let keys = answers_always _ _ _ (λ f a r next called. search rules) in
    are_sorted c.args.dots.now.items c.sort_by_key.new.self.items c.sort_by_key.ensures.permutation (c.sort_by_key.ensures.stable offset_of keys)
