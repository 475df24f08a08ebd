use Rattle.std.proofs.Common.{sym, subst, List, ℕ, ◌∷◌}
use Rattle.std.specs.List.Sorted.{IsPermutation}
use Rattle.std.proofs.lemmas.List.Sorted.{IsPermutation-insert}
use Rattle.point_put.specs.ShownIds.{Rising, StandsAt}
use Rattle.series_meta.proofs.TagPairs.{rises_with}
use Rattle.series_meta.proofs.series_row.add_pair.Goals as goal

pub returns-clause-rising : goal.returns-clause-rising
returns-clause-rising c =
    let place = subst (λ (xs : List (ℕ × ℕ)). StandsAt xs c.args.pair.0 c.place_of-at.result) c.as_slice.ensures.value c.place_of-at.ensures in
    subst Rising (sym c.insert.ensures.items) (rises_with c.args.pairs.now.items c.place_of-at.result c.args.pair place.within c.requires.rising place.before place.behind)

pub returns-clause-permuted : goal.returns-clause-permuted
returns-clause-permuted c = subst (λ (xs : List (ℕ × ℕ)). IsPermutation (c.args.pair ∷ c.args.pairs.now.items) xs) (sym c.insert.ensures.items) (IsPermutation-insert c.args.pairs.now.items c.place_of-at.result c.args.pair)
