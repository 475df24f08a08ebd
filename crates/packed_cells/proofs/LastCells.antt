-- What a row's cells are after one was put behind the last, or the last was stamped.
use Rattle.std.proofs.Common.{◌≡◌, ◌⊎◌, inl, inr, ℕ, ◌-◌, Bool, true, false, List, length, refl, sym, ap, subst, ◌∙◌, arith}
use Rattle.std.specs.Prelude.{IsTrue, insert, if◌then◌else◌}
use Rattle.std.specs.FinMap as fin
use Rattle.qual_codec.specs.declared.cells.Cell.{Cell}
use Rattle.cell_blocks.specs.Seeks.{Rises, AllBefore, IsCellGap, IsBehindLast, IsLastStamped}
use Rattle.packed_cells.specs.Keyed.{map_of, stamped}
use Rattle.cell_blocks.proofs.Halves.{up_to}
use Rattle.cell_blocks.proofs.Order.{rises_insert, rises_stamp}
use Rattle.packed_cells.proofs.Keyed.{insert_is_put, stamp_is_stamped}
use Rattle.cell_blocks.proofs.Order.{none}

behind_gap : (q : List ℕ) (cells : List Cell) → Rises cells → IsBehindLast q cells → IsCellGap q cells (length cells)
behind_gap q cells rises is = record {
  in_range = omega arith;
  before = subst (λ (n : ℕ). AllBefore q cells n) (omega (arith, is.some)) (up_to q cells (length cells - 1) rises (omega (arith, is.some)) is.behind);
  behind = λ k above within d. absurd (omega (arith, above, within));
}

module _ (q v : List ℕ) (n : ℕ) (old new : List Cell) (rises : Rises old) where
  pub put_rises : (r : Bool) → (IsTrue r → IsBehindLast q old) → new ≡ (if r then insert old (length old) (record { qual = q; value = v; version = n }) else old) → Rises new
  put_rises true behind is = subst (λ (cells : List Cell). Rises cells) (sym is) (rises_insert old (length old) q v n rises (behind_gap q old rises (behind refl)))
  put_rises false behind is = subst (λ (cells : List Cell). Rises cells) (sym is) rises

  pub put_is_put : (r : Bool) → (IsTrue r → IsBehindLast q old) → new ≡ (if r then insert old (length old) (record { qual = q; value = v; version = n }) else old) → map_of new ≡ (if r then fin.insert (map_of old) q (v, n) else map_of old)
  put_is_put true behind is =
      let gap = behind_gap q old rises (behind refl) in
      ap map_of is ∙ insert_is_put q v n old (length old) rises (rises_insert old (length old) q v n rises gap) gap
  put_is_put false behind is = ap map_of is

module _ (q : List ℕ) (n : ℕ) (old new : List Cell) (rises : Rises old) where
  stamped_rises : IsLastStamped q n old new → Rises new
  stamped_rises is = subst (λ (cells : List Cell). Rises cells) (sym (is.stamped none)) (rises_stamp old (length old - 1) n none rises is.last.in_range)

  stamped_is : IsLastStamped q n old new → map_of new ≡ stamped (map_of old) q n
  stamped_is is = ap map_of (is.stamped none) ∙ stamp_is_stamped q n old (length old - 1) none rises (rises_stamp old (length old - 1) n none rises is.last.in_range) is.last

  pub stamp_rises : (r : Bool) → (IsTrue r → IsLastStamped q n old new) → IsTrue r ⊎ (new ≡ old) → Rises new
  stamp_rises true found other = stamped_rises (found refl)
  stamp_rises false found (inl t) = absurd cc
  stamp_rises false found (inr same) = subst (λ (cells : List Cell). Rises cells) (sym same) rises

  pub last_is_stamped : (r : Bool) → (IsTrue r → IsLastStamped q n old new) → IsTrue r ⊎ (new ≡ old) → map_of new ≡ (if r then stamped (map_of old) q n else map_of old)
  last_is_stamped true found other = stamped_is (found refl)
  last_is_stamped false found (inl t) = absurd cc
  last_is_stamped false found (inr same) = ap map_of same
