-- A row of one cell.
use Rattle.std.proofs.Common.{◌≡◌, ℕ, zero, suc, ◌+◌, ◌≤◌, Bool, true, false, cond, List, [], ◌∷◌, length, take, drop, sym, ap, ◌∙◌, arith}
use Rattle.std.specs.Prelude.{Option, None, Some, is_some, option_map, nat_le}
use Rattle.std.specs.FinMap.{empty, get, insert, remove, get-empty, len, len-insert, len-empty}
use Rattle.std.specs.Cmp.Lexicographic.{nat_list_cmp_total}
use Rattle.list_lemmas.specs.BytesOrder.{bytes_cmp}
use Rattle.qual_codec.specs.declared.cells.Cell.{Cell}
use Rattle.cell_blocks.specs.Packed.{overwritten}
use Rattle.cell_blocks.specs.Seeks.{Rises}
use Rattle.packed_cells.specs.Keyed.{CellMap, cells_in, map_of, stamped, stamped_over, goes, without}
use Rattle.packed_cells.specs.SoleCells.{sole_map, Fits}
use Rattle.cell_blocks.proofs.Packed.{written_at, written_before, written_length}
use Rattle.packed_cells.proofs.Keyed.{cells_are, insert_is_put}
use Rattle.packed_cells.proofs.Columns.{Held, get_here, get_other, held_is, twice, put_and_taken}

-- ---- the bytes of the cell

-- a qualifier and a value behind it, written from the beginning of a block
abbrev written : List ℕ → List ℕ → List ℕ → List ℕ
written z q v = overwritten (overwritten z 0 q) (length q) v

pub both_length : (z q v : List ℕ) → length z ≡ 30 → length q + length v ≤ 30 → length (written z q v) ≡ 30
both_length z q v room fits =
    let one = written_length z q 0 (omega (arith, room, fits)) in
    written_length (overwritten z 0 q) v (length q) (omega (arith, one, room, fits)) ∙ one ∙ room

pub both_qual : (z q v : List ℕ) → length z ≡ 30 → length q + length v ≤ 30 → take (length q) (written z q v) ≡ q
both_qual z q v room fits =
    let one = written_length z q 0 (omega (arith, room, fits)) in
    written_before (overwritten z 0 q) v (length q) 0 (length q) (omega (arith, one, room, fits)) (omega arith)
    ∙ written_at z q 0 (omega (arith, room, fits))

pub both_value : (z q v : List ℕ) → length z ≡ 30 → length q + length v ≤ 30 → take (length v) (drop (length q) (written z q v)) ≡ v
both_value z q v room fits =
    let one = written_length z q 0 (omega (arith, room, fits)) in
    written_at (overwritten z 0 q) v (length q) (omega (arith, one, room, fits))

taken_few : (n : ℕ) (xs : List ℕ) → length (take n xs) ≤ n
taken_few zero xs = omega arith
taken_few (suc n) [] = omega arith
taken_few (suc n) (x ∷ xs) = omega (arith, taken_few n xs)

pub few : (q v : ℕ) (bytes : List ℕ) → Fits q v bytes → length (take q bytes) + length (take v (drop q bytes)) ≤ 30
few q v bytes fits = omega (arith, taken_few q bytes, taken_few v (drop q bytes), fits.within)

-- ---- the map of the cell

abbrev only : List ℕ → Held → CellMap
only k x = insert empty k x

none : (q : List ℕ) → get {X = Held} (empty {R = bytes_cmp}) q ≡ None
none q = get-empty bytes_cmp q

pub sole_len : (c : Cell) → 1 ≡ len (sole_map c)
sole_len c = sym (len-insert nat_list_cmp_total empty c.qual (c.value, c.version) ∙ ap (λ (o : Option Held). cond (is_some o) (len (empty {X = Held} {R = bytes_cmp})) (len (empty {X = Held} {R = bytes_cmp}) + 1)) (none c.qual) ∙ ap (λ (n : ℕ). n + 1) (len-empty bytes_cmp Held))

pub value_here : (q v : List ℕ) (n : ℕ) → Some v ≡ option_map (λ (c : Held). c.0) (get (only q (v, n)) q)
value_here q v n = ap (option_map (λ (c : Held). c.0)) (sym (get_here empty q (v, n)))

pub get_beside : (k q : List ℕ) (x : Held) → (q ≡ k → ⊥) → get (only k x) q ≡ None
get_beside k q x ne = get_other empty k q x ne ∙ none q

pub value_beside : (k q : List ℕ) (x : Held) → (q ≡ k → ⊥) → None ≡ option_map (λ (c : Held). c.0) (get (only k x) q)
value_beside k q x ne = ap (option_map (λ (c : Held). c.0)) (sym (get_beside k q x ne))

pub stamp_here : (q v : List ℕ) (n k : ℕ) → only q (v, k) ≡ stamped (only q (v, n)) q k
stamp_here q v n k = sym (twice empty q (v, n) (v, k)) ∙ ap (λ (o : Option Held). stamped_over o (only q (v, n)) q k) (sym (get_here empty q (v, n)))

pub stamp_beside : (k q : List ℕ) (x : Held) (n : ℕ) → (q ≡ k → ⊥) → only k x ≡ stamped (only k x) q n
stamp_beside k q x n ne = ap (λ (o : Option Held). stamped_over o (only k x) q n) (sym (get_beside k q x ne))

pub goes_here : (q v : List ℕ) (n k : ℕ) → nat_le n k ≡ goes (get (only q (v, n)) q) k
goes_here q v n k = ap (λ (o : Option Held). goes o k) (sym (get_here empty q (v, n)))

pub goes_beside : (k q : List ℕ) (x : Held) (n : ℕ) → (q ≡ k → ⊥) → false ≡ goes (get (only k x) q) n
goes_beside k q x n ne = ap (λ (o : Option Held). goes o n) (sym (get_beside k q x ne))

-- what is left where it goes, and where it doesn't
pub left_here : (q : List ℕ) (x : Held) (n : ℕ) (b : Bool) → b ≡ goes (get (only q x) q) n → without (only q x) q n ≡ cond b empty (only q x)
left_here q x n true is = ap (λ (b : Bool). cond b (remove (only q x) q) (only q x)) (sym is) ∙ sym (put_and_taken empty q x (none q))
left_here q x n false is = ap (λ (b : Bool). cond b (remove (only q x) q) (only q x)) (sym is)

pub left_beside : (k q : List ℕ) (x : Held) (n : ℕ) → (q ≡ k → ⊥) → without (only k x) q n ≡ only k x
left_beside k q x n ne = ap (λ (b : Bool). cond b (remove (only k x) q) (only k x)) (sym (goes_beside k q x n ne))

-- another value written over the cell, where it was written
pub set_over : (c : Cell) (q v : List ℕ) (n : ℕ) (b : Bool) (new : Cell) → q ≡ c.qual → new ≡ cond b (record { qual = c.qual; value = v; version = n }) c → sole_map new ≡ cond b (insert (sole_map c) q (v, n)) (sole_map c)
set_over c q v n true new same is =
    ap sole_map is ∙ sym (twice empty c.qual (c.value, c.version) (v, n)) ∙ ap (λ (z : List ℕ). insert (sole_map c) z (v, n)) (sym same)
set_over c q v n false new same is = ap sole_map is

pub held_value : (c : Cell) (q w : List ℕ) (k : ℕ) → q ≡ c.qual → get (sole_map c) q ≡ Some (w, k) → w ≡ c.value
held_value c q w k same is =
    ap (λ (h : Held). h.0) (held_is empty c.qual (c.value, c.version) (w, k) (ap (λ (z : List ℕ). get (sole_map c) z) (sym same) ∙ is))

rises_none : Rises []
rises_none i j lt within d = absurd (omega (arith, within))

pub rises_one : (c : Cell) → Rises (c ∷ [])
rises_one c i j lt within d = absurd (omega (arith, lt, within))

pub one_is : (c : Cell) → map_of (c ∷ []) ≡ sole_map c
one_is c = insert_is_put c.qual c.value c.version [] 0 rises_none (rises_one c) (record { in_range = omega arith; before = λ k lt d. absurd (omega (arith, lt)); behind = λ k le lt d. absurd (omega (arith, lt)) })

pub cells_one : (c : Cell) → c ∷ [] ≡ cells_in (sole_map c)
cells_one c = cells_are (c ∷ []) (rises_one c) ∙ ap cells_in (one_is c)
