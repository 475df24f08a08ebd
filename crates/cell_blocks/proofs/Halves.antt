-- Steps of a binary search.
use Rattle.std.proofs.Common.{◌≡◌, ◌⊎◌, inl, inr, ℕ, zero, suc, ◌+◌, ◌≤◌, ◌<◌, List, length, refl, sym, ap, subst, ◌∙◌, arith}
use Rattle.std.specs.Prelude.{slice_index_or}
use Rattle.std.specs.declared.cmp.Ordering.{Ordering}
use Rattle.std.specs.declared.cmp.Ordering.TheVariants.{Less, Greater}
use Rattle.std.specs.Ordering.{ordering_reverse}
use Rattle.std.specs.Cmp.Lexicographic.{nat_list_cmp_total}
use Rattle.qual_codec.specs.declared.cells.Cell.{Cell}
use Rattle.list_lemmas.specs.BytesOrder.{bytes_cmp}
use Rattle.cell_blocks.specs.Seeks.{Rises, AllBefore, AllBehind}

pub turn : (x y : List ℕ) (r : Ordering) → bytes_cmp y x ≡ r → bytes_cmp x y ≡ ordering_reverse r
turn x y r is = nat_list_cmp_total.antisymm x y ∙ ap ordering_reverse is

pub split_le : (k m : ℕ) → k ≤ m → (k < m) ⊎ (k ≡ m)
split_le zero zero le = inr refl
split_le zero (suc m) le = inl (omega arith)
split_le (suc k) zero le = absurd (omega arith)
split_le (suc k) (suc m) le = more (split_le k m (omega arith))
  where
    more : (k < m) ⊎ (k ≡ m) → (suc k < suc m) ⊎ (suc k ≡ suc m)
    more (inl a) = inl (omega arith)
    more (inr b) = inr (omega arith)

-- what is behind what is behind is behind
pub less_than : (x y z : List ℕ) → bytes_cmp x y ≡ Less → bytes_cmp y z ≡ Less → bytes_cmp x z ≡ Less
less_than x y z a b = nat_list_cmp_total.trans x y z a b

pub greater_than : (x y z : List ℕ) → bytes_cmp x y ≡ Greater → bytes_cmp z y ≡ Less → bytes_cmp x z ≡ Greater
greater_than x y z a b = turn x z Less (nat_list_cmp_total.trans z y x b (turn y x Greater a))

-- the qualifier is behind the one at m: so it is behind all up to m
pub up_to : (q : List ℕ) (cells : List Cell) (m : ℕ) → Rises cells → m < length cells → ((d : Cell) → bytes_cmp q (slice_index_or cells m d).qual ≡ Greater) → AllBefore q cells (m + 1)
up_to q cells m rises lt is k below d = at (split_le k m (omega arith))
  where
    at : (k < m) ⊎ (k ≡ m) → bytes_cmp q (slice_index_or cells k d).qual ≡ Greater
    at (inl less) = greater_than q (slice_index_or cells m d).qual (slice_index_or cells k d).qual (is d) (rises k m less lt d)
    at (inr same) = subst (λ (j : ℕ). bytes_cmp q (slice_index_or cells j d).qual ≡ Greater) (sym same) (is d)

pub from_on : (q : List ℕ) (cells : List Cell) (m : ℕ) → Rises cells → m < length cells → ((d : Cell) → bytes_cmp q (slice_index_or cells m d).qual ≡ Less) → AllBehind q cells m
from_on q cells m rises lt is k above within d = at (split_le m k above)
  where
    at : (m < k) ⊎ (m ≡ k) → bytes_cmp q (slice_index_or cells k d).qual ≡ Less
    at (inl less) = less_than q (slice_index_or cells m d).qual (slice_index_or cells k d).qual (is d) (rises m k less within d)
    at (inr same) = subst (λ (j : ℕ). bytes_cmp q (slice_index_or cells j d).qual ≡ Less) same (is d)
