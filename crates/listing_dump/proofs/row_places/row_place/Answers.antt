use Rattle.std.proofs.Common.{ℕ, List, refl, subst, sym, rules}
use Rattle.std.specs.List.Sorted.{IsPermutation, IsSorted}
use Rattle.row_key.specs.KeyOrder.{pair_cmp}
use Rattle.listing_dump.specs.RowPlaces.{AreRanked}
use Rattle.arrayvec.proofs.ArrayVecLemmas.{items-with_items}
use Rattle.listing_dump.proofs.row_places.row_place.Goals as goal

pub returns : goal.returns
returns c =
    let same = items-with_items c.ranks_of_tags-tags.result c.sort_unstable.new.self (search rules) in
    record {
      tags = c.ranks_of_tags-tags.result.items;
      ranked = subst (λ (ps : List (ℕ × ℕ)). AreRanked c.args.ranks.now ps c.ranks_of_tags-tags.result.items) c.as_slice.ensures.value c.ranks_of_tags-tags.ensures;
      moved = subst (λ (xs : List (ℕ × ℕ)). IsPermutation c.ranks_of_tags-tags.result.items xs) (sym same) (subst (λ (xs : List (ℕ × ℕ)). IsPermutation xs c.sort_unstable.new.self) c.deref_mut.ensures.value c.sort_unstable.ensures.permutation);
      sorted = subst (λ (xs : List (ℕ × ℕ)). IsSorted pair_cmp xs) (sym same) c.sort_unstable.ensures.sorted;
      metric = c.rank_of.ensures;
      base = refl;
      line_is = refl;
    }
