-- The laws of the comparisons of the ids of tags.
use Rattle.std.specs.Prelude.{◌≡◌, ◌&&◌, ℕ, Bool, List, Some, nat_eq}
use Rattle.std.specs.Ordering.{nat_cmp, eq_by_cmp}
use Rattle.std.specs.Cmp.{IsEquivalence, IsTotalOrder, IsPartialOrder, on_equiv, and_equiv, on_total, then_total, both_tied, po, nat_eq_equiv, nat_cmp_total, unsigned_ties}
use Rattle.std.specs.Cmp.Lexicographic.{pointwise, lists_equiv, lists_total, lists_ties}
use Rattle.row_key.specs.KeyOrder.{pair_cmp}
use Rattle.span_merge.specs.Spans.{pairs_cmp}

abbrev pub is_same_pair : ℕ × ℕ → ℕ × ℕ → Bool
is_same_pair p q = nat_eq p.0 q.0 && nat_eq p.1 q.1

-- the pairs are the same, one by one
abbrev pub is_same_pairs : List (ℕ × ℕ) → List (ℕ × ℕ) → Bool
is_same_pairs = pointwise is_same_pair

pub same_pairs_equiv : IsEquivalence is_same_pairs
same_pairs_equiv = lists_equiv (and_equiv (on_equiv (λ (p : ℕ × ℕ). p.0) nat_eq_equiv) (on_equiv (λ (p : ℕ × ℕ). p.1) nat_eq_equiv))

pub pairs_cmp_total : IsTotalOrder pairs_cmp
pairs_cmp_total = lists_total (then_total (on_total (λ (p : ℕ × ℕ). p.0) nat_cmp_total) (on_total (λ (p : ℕ × ℕ). p.1) nat_cmp_total))

pair_ties : (p q : ℕ × ℕ) → is_same_pair p q ≡ eq_by_cmp pair_cmp p q
pair_ties p q = both_tied _ _ (nat_cmp p.0 q.0) (nat_cmp p.1 q.1) (unsigned_ties p.0 q.0) (unsigned_ties p.1 q.1)

pub pairs_ties : (x y : List (ℕ × ℕ)) → is_same_pairs x y ≡ eq_by_cmp pairs_cmp x y
pairs_ties = lists_ties pair_cmp pair_ties

pub pairs_po : IsPartialOrder is_same_pairs (λ x y. Some (pairs_cmp x y))
pairs_po = po pairs_cmp_total pairs_ties
