-- The laws of the comparisons of tags.
use Rattle.std.specs.Prelude.{◌≡◌, ◌++◌, List, Some, IsTrue}
use Rattle.std.proofs.Common.{Ordering, Less, Equal, Greater, true, refl, sym, ◌∙◌}
use Rattle.std.specs.FinMap.{IsAntisymmetric, nat_cmp-IsAntisymmetric, slice_cmp-IsAntisymmetric}
use Rattle.std.specs.Ordering.{eq_by_cmp, ordering_then}
use Rattle.std.specs.Cmp.{Equal-is, IsEquivalence, IsTotalOrder, IsPartialOrder, on_equiv, and_equiv, on_total, then_total, both_tied, po}
use Rattle.std.specs.Cmp.Lexicographic.{lists_equiv, lists_total, lists_ties, nat_list_eq_equiv, nat_list_cmp_total, texts_ties, bytes_decides}
use Rattle.std.specs.Hash as fed
use Rattle.tsd_base.specs.TagList.{Pair, is_same_pair, is_same_tags, pair_cmp, tags_cmp}
use Rattle.list_lemmas.specs.BytesOrder.{bytes_cmp}

pub is_same_tags_equiv : IsEquivalence is_same_tags
is_same_tags_equiv = lists_equiv (and_equiv (on_equiv (λ p. p.0) nat_list_eq_equiv) (on_equiv (λ p. p.1) nat_list_eq_equiv))

pub tags_cmp_total : IsTotalOrder tags_cmp
tags_cmp_total = lists_total (then_total (on_total (λ p. p.0) nat_list_cmp_total) (on_total (λ p. p.1) nat_list_cmp_total))

pair_ties : (p q : Pair) → is_same_pair p q ≡ eq_by_cmp pair_cmp p q
pair_ties p q = both_tied _ _ (bytes_cmp p.0 q.0) (bytes_cmp p.1 q.1) (texts_ties p.0 q.0) (texts_ties p.1 q.1)

pub tags_ties : (x y : List Pair) → is_same_tags x y ≡ eq_by_cmp tags_cmp x y
tags_ties = lists_ties pair_cmp pair_ties

pub tags_po : IsPartialOrder is_same_tags (λ x y. Some (tags_cmp x y))
tags_po = po tags_cmp_total tags_ties

-- what a hash of tags is fed: their number, and then each key and value
abbrev pub tags_input : List Pair → fed.HashWrites
tags_input = fed.slice (λ p. fed.str p.0 ++ fed.str p.1)

pub same_input : (x y : List Pair) → IsTrue (is_same_tags x y) → tags_input x ≡ tags_input y
same_input = (fed.items_Alike (fed.and-Alike (fed.on_Alike (λ (p : Pair). p.0) (fed.same_Alike fed.str bytes_decides)) (fed.on_Alike (λ (p : Pair). p.1) (fed.same_Alike fed.str bytes_decides)))).fed

pub bytes_exact : IsAntisymmetric bytes_cmp
bytes_exact = slice_cmp-IsAntisymmetric nat_cmp-IsAntisymmetric

both_equal : (a b : Ordering) → ordering_then a b ≡ Equal → (a ≡ Equal) × (b ≡ Equal)
both_equal Less b e = absurd cc
both_equal Equal b e = (refl, e)
both_equal Greater b e = absurd cc

pair_exact : IsAntisymmetric pair_cmp
pair_exact p q e =
    let h = both_equal (bytes_cmp p.0 q.0) (bytes_cmp p.1 q.1) e in
    let key = bytes_exact p.0 q.0 h.0 in
    let value = bytes_exact p.1 q.1 h.1 in
    λ i. (key i, value i)

pub tags_cmp_exact : IsAntisymmetric tags_cmp
tags_cmp_exact = slice_cmp-IsAntisymmetric pair_exact

-- tags that are the same are equal
pub tags_same : (x y : List Pair) → is_same_tags x y ≡ true → x ≡ y
tags_same x y same = tags_cmp_exact x y ((Equal-is (tags_cmp x y)).0 (sym (tags_ties x y) ∙ same))
