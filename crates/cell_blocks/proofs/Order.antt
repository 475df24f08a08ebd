-- The order of cells after an edit.
use Rattle.std.proofs.Common.{◌≡◌, ◌⊎◌, inl, inr, ℕ, zero, suc, ◌+◌, ◌-◌, ◌≤◌, ◌<◌, List, [], length, refl, sym, ap, ◌∙◌, arith}
use Rattle.std.specs.Prelude.{slice_index_or, slice_set}
use Rattle.std.specs.List.{insert, remove}
use Rattle.std.specs.declared.cmp.Ordering.TheVariants.{Less, Greater}
use Rattle.std.specs.FinMap.{slice_cmp-IsAntisymmetric, nat_cmp-IsAntisymmetric}
use Rattle.std.proofs.lemmas.List.{get_or-set_same, get_or-set_other, length-set, get_or_default}
use Rattle.std.proofs.lemmas.List.Edits.{length-insert, length-remove, get_or-remove_below, get_or-remove_above, get_or-insert_below, get_or-insert_at, get_or-insert_above}
use Rattle.qual_codec.specs.declared.cells.Cell.{Cell}
use Rattle.cell_blocks.specs.Packed.{stamped_at}
use Rattle.list_lemmas.specs.BytesOrder.{bytes_cmp}
use Rattle.cell_blocks.specs.Seeks.{Rises, IsCellAt, IsCellGap}
use Rattle.cell_blocks.proofs.Halves.{turn}

-- what is read where no cell is
pub none : Cell
none = record { qual = []; value = []; version = 0 }

pub tri : (a i : ℕ) → (a < i) ⊎ ((a ≡ i) ⊎ (i < a))
tri zero zero = inr (inl refl)
tri zero (suc i) = inl (omega arith)
tri (suc a) zero = inr (inr (omega arith))
tri (suc a) (suc i) = more (tri a i)
  where
    more : (a < i) ⊎ ((a ≡ i) ⊎ (i < a)) → (suc a < suc i) ⊎ ((suc a ≡ suc i) ⊎ (suc i < suc a))
    more (inl p) = inl (omega arith)
    more (inr (inl p)) = inr (inl (omega arith))
    more (inr (inr p)) = inr (inr (omega arith))

above : (cells : List Cell) (i : ℕ) (x d : Cell) (k : ℕ) → i < k → i ≤ length cells → slice_index_or (insert cells i x) k d ≡ slice_index_or cells (k - 1) d
above cells i x d k lt le =
    let e : k ≡ (k - 1) + 1 = omega arith in
    ap (λ (m : ℕ). slice_index_or (insert cells i x) m d) e ∙ get_or-insert_above cells i x d (k - 1) (omega arith) le

not_below : {a i : ℕ} → (a ≡ i) ⊎ (i < a) → i ≤ a
not_below (inl e) = omega (arith, e)
not_below (inr p) = omega (arith, p)

pub rises_insert : (cells : List Cell) (i : ℕ) (q v : List ℕ) (n : ℕ) → Rises cells → IsCellGap q cells i → Rises (insert cells i (record { qual = q; value = v; version = n }))
rises_insert cells i q v n rises gap a b lt within d = at (tri a i) (tri b i)
  where
    x : Cell
    x = record { qual = q; value = v; version = n }

    inside : b < length cells + 1
    inside = omega (arith, within, length-insert cells i (record { qual = q; value = v; version = n }) gap.in_range)

    less : Cell → Cell → Type 0
    less y z = bytes_cmp y.qual z.qual ≡ Less

    both : (y z s t : Cell) → y ≡ s → z ≡ t → bytes_cmp s.qual t.qual ≡ Less → bytes_cmp y.qual z.qual ≡ Less
    both y z s t e f h = (λ j. bytes_cmp (e j).qual (f j).qual) ∙ h

    at : (a < i) ⊎ ((a ≡ i) ⊎ (i < a)) → (b < i) ⊎ ((b ≡ i) ⊎ (i < b)) → bytes_cmp (slice_index_or (insert cells i (record { qual = q; value = v; version = n })) a d).qual (slice_index_or (insert cells i (record { qual = q; value = v; version = n })) b d).qual ≡ Less
    at (inl p) (inl r) = both _ _ _ _ (get_or-insert_below cells i _ d a p gap.in_range) (get_or-insert_below cells i _ d b r gap.in_range) (rises a b lt (omega (arith, gap.in_range)) d)
    at (inl p) (inr (inl r)) = both _ _ _ _ (get_or-insert_below cells i _ d a p gap.in_range) (ap (λ (m : ℕ). slice_index_or (insert cells i (record { qual = q; value = v; version = n })) m d) r ∙ get_or-insert_at cells i _ d gap.in_range) (turn (slice_index_or cells a d).qual q Greater (gap.before a p d))
    at (inl p) (inr (inr r)) = both _ _ _ _ (get_or-insert_below cells i _ d a p gap.in_range) (above cells i _ d b r gap.in_range) (rises a (b - 1) (omega arith) (omega (arith, inside)) d)
    at (inr (inl p)) (inl r) = absurd (omega arith)
    at (inr (inl p)) (inr (inl r)) = absurd (omega arith)
    at (inr (inl p)) (inr (inr r)) = both _ _ _ _ (ap (λ (m : ℕ). slice_index_or (insert cells i (record { qual = q; value = v; version = n })) m d) p ∙ get_or-insert_at cells i _ d gap.in_range) (above cells i _ d b r gap.in_range) (gap.behind (b - 1) (omega arith) (omega (arith, inside)) d)
    at (inr (inr p)) (inl r) = absurd (omega arith)
    at (inr (inr p)) (inr (inl r)) = absurd (omega arith)
    at (inr (inr p)) (inr (inr r)) = both _ _ _ _ (above cells i _ d a p gap.in_range) (above cells i _ d b r gap.in_range) (rises (a - 1) (b - 1) (omega arith) (omega (arith, inside)) d)

-- an edit that leaves the qualifier leaves the order
pub qual_after : (cells : List Cell) (i : ℕ) (x : Cell) → i < length cells → ((d : Cell) → x.qual ≡ (slice_index_or cells i d).qual) → (k : ℕ) (d : Cell) → (slice_index_or (slice_set cells i x) k d).qual ≡ (slice_index_or cells k d).qual
qual_after cells i x lt same k d = at (tri k i)
  where
    at : (k < i) ⊎ ((k ≡ i) ⊎ (i < k)) → (slice_index_or (slice_set cells i x) k d).qual ≡ (slice_index_or cells k d).qual
    at (inl p) = ap (λ (c : Cell). c.qual) (get_or-set_other cells i k x d (λ e. omega arith))
    at (inr (inl p)) = ap (λ (m : ℕ). (slice_index_or (slice_set cells i x) m d).qual) p ∙ ap (λ (c : Cell). c.qual) (get_or-set_same cells i x d lt) ∙ same d ∙ ap (λ (m : ℕ). (slice_index_or cells m d).qual) (sym p)
    at (inr (inr p)) = ap (λ (c : Cell). c.qual) (get_or-set_other cells i k x d (λ e. omega arith))

rises_same : (cells : List Cell) (i : ℕ) (x : Cell) → Rises cells → i < length cells → ((d : Cell) → x.qual ≡ (slice_index_or cells i d).qual) → Rises (slice_set cells i x)
rises_same cells i x rises lt same a b less within d =
    (λ j. bytes_cmp (qual_after cells i x lt same a d j) (qual_after cells i x lt same b d j)) ∙ rises a b less (omega (arith, length-set cells i x)) d

pub rises_set : (cells : List Cell) (i : ℕ) (q v : List ℕ) (n : ℕ) → Rises cells → IsCellAt q cells i → Rises (slice_set cells i (record { qual = q; value = v; version = n }))
rises_set cells i q v n rises at = rises_same cells i (record { qual = q; value = v; version = n }) rises at.in_range (λ d. slice_cmp-IsAntisymmetric nat_cmp-IsAntisymmetric q (slice_index_or cells i d).qual (at.here d))

pub rises_stamp : (cells : List Cell) (i n : ℕ) (e : Cell) → Rises cells → i < length cells → Rises (slice_set cells i (stamped_at (slice_index_or cells i e) n))
rises_stamp cells i n e rises lt = rises_same cells i _ rises lt (λ d. ap (λ (c : Cell). c.qual) (get_or_default cells i e d lt))

pub rises_remove : (cells : List Cell) (i : ℕ) → Rises cells → i < length cells → Rises (remove cells i)
rises_remove cells i rises lt a b less within d = at (tri a i) (tri b i)
  where
    inside : b + 1 < length cells
    inside = omega (arith, within, length-remove cells i lt)

    both : (y z s t : Cell) → y ≡ s → z ≡ t → bytes_cmp s.qual t.qual ≡ Less → bytes_cmp y.qual z.qual ≡ Less
    both y z s t e f h = (λ j. bytes_cmp (e j).qual (f j).qual) ∙ h

    below : (k : ℕ) → k < i → slice_index_or (remove cells i) k d ≡ slice_index_or cells k d
    below k p = get_or-remove_below cells i d k p lt

    from_on : (k : ℕ) → i ≤ k → slice_index_or (remove cells i) k d ≡ slice_index_or cells (k + 1) d
    from_on k p = get_or-remove_above cells i d k p lt

    at : (a < i) ⊎ ((a ≡ i) ⊎ (i < a)) → (b < i) ⊎ ((b ≡ i) ⊎ (i < b)) → bytes_cmp (slice_index_or (remove cells i) a d).qual (slice_index_or (remove cells i) b d).qual ≡ Less
    at (inl p) (inl r) = both _ _ _ _ (below a p) (below b r) (rises a b less (omega (arith, inside)) d)
    at (inl p) (inr r) = both _ _ _ _ (below a p) (from_on b (not_below r)) (rises a (b + 1) (omega arith) inside d)
    at (inr p) (inl r) = absurd (omega (arith, not_below p))
    at (inr p) (inr r) = both _ _ _ _ (from_on a (not_below p)) (from_on b (not_below r)) (rises (a + 1) (b + 1) (omega arith) inside d)

-- the qualifier at i has the length of the one that was looked for
pub found_length : (q : List ℕ) (cells : List Cell) (i : ℕ) (d : Cell) → IsCellAt q cells i → length (slice_index_or cells i d).qual ≡ length q
found_length q cells i d a = ap length (sym (slice_cmp-IsAntisymmetric nat_cmp-IsAntisymmetric q (slice_index_or cells i d).qual (a.here d)))
