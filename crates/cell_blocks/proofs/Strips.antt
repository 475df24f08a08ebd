-- What a strip's cells are after an edit.
use Rattle.std.proofs.Common.{◌≡◌, ℕ, ◌-◌, ◌<◌, ◌^◌, List, length, sym, ap, subst, ◌∙◌, arith}
use Rattle.std.specs.Prelude.{insert, slice_set, slice_index_or}
use Rattle.std.specs.List.{remove}
use Rattle.std.specs.Int.{w64, to_le_bytes, from_le_bytes}
use Rattle.std.proofs.lemmas.List.{get_or_default, length-map, length-set}
use Rattle.std.proofs.lemmas.Nat.{from_le_bytes-to_le_bytes_8}
use Rattle.qual_codec.specs.declared.cells.Cell.{Cell}
use Rattle.cell_blocks.specs.declared.strip.Slot.{Slot}
use Rattle.cell_blocks.specs.Packed.{stamped_at}
use Rattle.cell_blocks.specs.Strips.{EndsWith, slot_cell, slot_cells}
use Rattle.cell_blocks.proofs.Order.{qual_after}
use Rattle.cell_blocks.proofs.Packed.{map_insert, map_set, map_remove, map_at}

-- another version leaves the last qualifier
ends_stamped : (last : List ℕ) (cells : List Cell) (i n : ℕ) (e : Cell) → EndsWith last cells → i < length cells → EndsWith last (slice_set cells i (stamped_at (slice_index_or cells i e) n))
ends_stamped last cells i n e ends lt some d =
    let x : Cell = stamped_at (slice_index_or cells i e) n in
    let long : length (slice_set cells i x) ≡ length cells = length-set cells i x in
    ap (λ (m : ℕ). (slice_index_or (slice_set cells i x) (m - 1) d).qual) long
    ∙ qual_after cells i x lt (λ f. ap (λ (c : Cell). c.qual) (get_or_default cells i e f lt)) (length cells - 1) d
    ∙ ends (omega (arith, some, long)) d

module _ {V : Type 0} (bytes : V → List ℕ) (slots : List (Slot V)) (cells : List Cell) (is : slot_cells bytes slots ≡ cells) (i : ℕ) where
  pub inserted : (new : List (Slot V)) (s : Slot V) (c : Cell) → new ≡ insert slots i s → slot_cell bytes s ≡ c → slot_cells bytes new ≡ insert cells i c
  inserted new s c now told = ap (slot_cells bytes) now ∙ map_insert (slot_cell bytes) slots i s ∙ (λ j. insert (is j) i (told j))

  pub replaced : (s : Slot V) (c : Cell) → slot_cell bytes s ≡ c → slot_cells bytes (slice_set slots i s) ≡ slice_set cells i c
  replaced s c told = map_set (slot_cell bytes) slots i s ∙ (λ j. slice_set (is j) i (told j))

  pub removed : (new : List (Slot V)) → new ≡ remove slots i → slot_cells bytes new ≡ remove cells i
  removed new now = ap (slot_cells bytes) now ∙ map_remove (slot_cell bytes) slots i ∙ ap (λ (all : List Cell). remove all i) is

  in_slots : i < length cells → i < length slots
  in_slots lt = omega (arith, lt, ap length is, length-map slots (slot_cell bytes))

  cell_is : (s : Slot V) (d : Cell) → i < length cells → s ≡ slice_index_or slots i s → slot_cell bytes s ≡ slice_index_or cells i d
  cell_is s d lt here = ap (slot_cell bytes) here ∙ sym (map_at (slot_cell bytes) slots i s d (in_slots lt)) ∙ ap (λ (all : List Cell). slice_index_or all i d) is

  pub restamped : (s : Slot V) (digits : List ℕ) (n : ℕ) (d : Cell) → i < length cells → s ≡ slice_index_or slots i s → digits ≡ to_le_bytes w64 n → n < 2 ^ 64 → slot_cells bytes (slice_set slots i (record { version = digits; qual = s.qual; value = s.value })) ≡ slice_set cells i (stamped_at (slice_index_or cells i d) n)
  restamped s digits n d lt here written fits =
      let version : from_le_bytes w64 digits ≡ n = ap (from_le_bytes w64) written ∙ from_le_bytes-to_le_bytes_8 n fits in
      replaced (record { version = digits; qual = s.qual; value = s.value }) (stamped_at (slice_index_or cells i d) n)
      ((λ j. record { qual = s.qual; value = bytes s.value; version = version j }) ∙ ap (λ (c : Cell). stamped_at c n) (cell_is s d lt here))

  pub still_ends : (last : List ℕ) (new : List (Slot V)) (n : ℕ) (d : Cell) → EndsWith last (slot_cells bytes slots) → i < length cells → slot_cells bytes new ≡ slice_set cells i (stamped_at (slice_index_or cells i d) n) → EndsWith last (slot_cells bytes new)
  still_ends last new n d ends lt now = subst (λ (all : List Cell). EndsWith last all) (sym now) (ends_stamped last cells i n d (subst (λ (all : List Cell). EndsWith last all) is ends) lt)
