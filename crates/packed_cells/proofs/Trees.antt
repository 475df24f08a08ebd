-- The map of a tree's cells, by what the tree finds.
use Rattle.std.proofs.Common.{◌≡◌, ℕ, zero, suc, ◌+◌, ◌<◌, Bool, true, false, cond, List, [], ◌∷◌, ◌++◌, drop, length, map, refl, sym, ap, subst, ◌∙◌, arith}
use Rattle.std.specs.Prelude.{Option, None, Some, Result, Ok, Err, IfOk, option_map, slice_index_or, Vec}
use Rattle.std.specs.declared.alloc.Global.{Global}
use Rattle.std.specs.declared.cmp.Ordering.{Ordering}
use Rattle.std.specs.declared.cmp.Ordering.TheVariants.{Less}
use Rattle.std.specs.BTreeMap.{BTreeMap, UpdatesBy, is_at}
use Rattle.std.specs.Map.{lookup, KeepsOthers}
use Rattle.std.specs.List.{AllByRecursion}
use Rattle.std.specs.List.Sorted.{IsStrictlySortedBy}
use Rattle.std.specs.Ordering.{eq_by_cmp, is_eq}
use Rattle.std.specs.Cmp.Lexicographic.{nat_list_cmp_total}
use Rattle.std.specs.FinMap.{find, get, insert, remove, same_map, get-from_entries, get-insert, get-remove}
use Rattle.list_lemmas.specs.BytesOrder.{bytes_cmp}
use Rattle.list_lemmas.proofs.BoolTests.{is_equal}
use Rattle.qual_codec.specs.declared.cells.Cell.{Cell}
use Rattle.cell_blocks.specs.Seeks.{Rises}
use Rattle.packed_cells.specs.Keyed.{CellMap, cells_in, entry_of, map_of, stamped, stamped_over}
use Rattle.packed_cells.specs.TreeCells.{entry_cell, tree_cells}
use Rattle.packed_cells.specs.declared.tree_cells.TreeCell.{TreeCell}
use Rattle.packed_cells.proofs.Keyed.{cells_are, exact}

abbrev pub Entry : Type 0
Entry = Vec ℕ Global × TreeCell

abbrev pub Tree : Type 0
Tree = BTreeMap (Vec ℕ Global) TreeCell

abbrev pub held_in : TreeCell → List ℕ × ℕ
held_in t = (t.value.items, t.version)

abbrev pub at_qual : List ℕ → Vec ℕ Global → Ordering
at_qual q k = bytes_cmp q k.items

abbrev pub key_cmp : Vec ℕ Global → Vec ℕ Global → Ordering
key_cmp x y = bytes_cmp x.items y.items

either : (b : Bool) (t : TreeCell) (o : Option TreeCell) (p : Option (List ℕ × ℕ)) → p ≡ option_map held_in o → cond b (Some (held_in t)) p ≡ option_map held_in (cond b (Some t) o)
either true t o p same = refl
either false t o p same = same

find_tree : (q : List ℕ) (es : List Entry) → find bytes_cmp q (map entry_of (tree_cells es)) ≡ option_map held_in (lookup (is_at (at_qual q)) es)
find_tree q [] = refl
find_tree q (e ∷ es) = either (is_eq (at_qual q e.0)) e.1 _ _ (find_tree q es)

pub get_tree : (q : List ℕ) (es : List Entry) → get (map_of (tree_cells es)) q ≡ option_map held_in (lookup (is_at (at_qual q)) es)
get_tree q es = get-from_entries nat_list_cmp_total (map entry_of (tree_cells es)) q ∙ find_tree q es

other_kept : (q x : List ℕ) (es fs : List Entry) → eq_by_cmp bytes_cmp x q ≡ false → KeepsOthers (eq_by_cmp key_cmp) (is_at (at_qual q)) es fs → lookup (is_at (at_qual x)) fs ≡ lookup (is_at (at_qual x)) es
unfolding KeepsOthers
other_kept q x es fs apart keeps =
    keeps (is_at (at_qual x))
    (λ a b found. ap (λ (z : List ℕ). eq_by_cmp bytes_cmp z b.items) (exact x a.items (is_equal _ found)))
    (λ k found. ap (λ (z : List ℕ). eq_by_cmp bytes_cmp x z) (sym (exact q k.items (is_equal _ found))) ∙ apart)

-- what is found once a cell was written or taken out
updated : (q : List ℕ) (old new : Tree) (w : Option TreeCell) → UpdatesBy key_cmp (at_qual q) old new w
    → (x : List ℕ) → get (map_of (tree_cells new.entries)) x ≡ cond (eq_by_cmp bytes_cmp x q) (option_map held_in w) (get (map_of (tree_cells old.entries)) x)
updated q old new w after x = choose (eq_by_cmp bytes_cmp x q) refl
  where
    choose : (b : Bool) → eq_by_cmp bytes_cmp x q ≡ b → get (map_of (tree_cells new.entries)) x ≡ cond b (option_map held_in w) (get (map_of (tree_cells old.entries)) x)
    choose true e = get_tree x new.entries ∙ ap (λ (z : List ℕ). option_map held_in (lookup (is_at (at_qual z)) new.entries)) (exact x q (is_equal _ e)) ∙ ap (option_map held_in) after.1
    choose false e = get_tree x new.entries ∙ ap (option_map held_in) (other_kept q x old.entries new.entries e after.3) ∙ sym (get_tree x old.entries)

pub put_in_tree : (q : List ℕ) (old new : Tree) (t : TreeCell) → UpdatesBy key_cmp (at_qual q) old new (Some t) → map_of (tree_cells new.entries) ≡ insert (map_of (tree_cells old.entries)) q (held_in t)
put_in_tree q old new t after =
    let m = map_of (tree_cells old.entries) in
    same_map nat_list_cmp_total exact _ _ (λ x. updated q old new (Some t) after x ∙ sym (get-insert nat_list_cmp_total m q (held_in t) x))

pub taken_from_tree : (q : List ℕ) (old new : Tree) → UpdatesBy key_cmp (at_qual q) old new None → map_of (tree_cells new.entries) ≡ remove (map_of (tree_cells old.entries)) q
taken_from_tree q old new after =
    let m = map_of (tree_cells old.entries) in
    same_map nat_list_cmp_total exact _ _ (λ x. updated q old new None after x ∙ sym (get-remove nat_list_cmp_total m q x))

-- a cell that was there was written again
pub put_same : (q : List ℕ) (m : CellMap) (x : List ℕ × ℕ) → get m q ≡ Some x → insert m q x ≡ m
put_same q m x there = same_map nat_list_cmp_total exact (insert m q x) m (λ z. get-insert nat_list_cmp_total m q x z ∙ choose z (eq_by_cmp bytes_cmp z q) refl)
  where
    choose : (z : List ℕ) (b : Bool) → eq_by_cmp bytes_cmp z q ≡ b → cond b (Some x) (get m z) ≡ get m z
    choose z true e = sym (ap (get m) (exact z q (is_equal _ e)) ∙ there)
    choose z false e = refl

pub stamped_there : (q : List ℕ) (m : CellMap) (v : List ℕ) (n k : ℕ) → get m q ≡ Some (v, n) → insert m q (v, k) ≡ stamped m q k
stamped_there q m v n k there = ap (λ o. stamped_over o m q k) (sym there)

pub stamped_none : (q : List ℕ) (m : CellMap) (k : ℕ) → get m q ≡ None → m ≡ stamped m q k
stamped_none q m k none = ap (λ o. stamped_over o m q k) (sym none)

first_below : (q : List ℕ) (es : List Entry) → AllByRecursion (λ (y : Vec ℕ Global). bytes_cmp q y.items ≡ Less) (map (λ (e : Entry). e.0) es) → (j : ℕ) → j < length (tree_cells es) → (d : Cell) → bytes_cmp q (slice_index_or (tree_cells es) j d).qual ≡ Less
first_below q [] all j lt d = absurd (omega (arith, lt))
first_below q (e ∷ es) all zero lt d = all.0
first_below q (e ∷ es) all (suc j) lt d = first_below q es all.1 j (omega (arith, lt)) d

-- a tree's cells rise
pub tree_rises : (es : List Entry) → IsStrictlySortedBy key_cmp (map (λ (e : Entry). e.0) es) → Rises (tree_cells es)
unfolding IsStrictlySortedBy
tree_rises [] up i j lt within d = absurd (omega (arith, within))
tree_rises (e ∷ es) up zero zero lt within d = absurd (omega (arith, lt))
tree_rises (e ∷ es) up zero (suc j) lt within d = first_below e.0.items es up.0 j (omega (arith, within)) d
tree_rises (e ∷ es) up (suc i) zero lt within d = absurd (omega (arith, lt))
tree_rises (e ∷ es) up (suc i) (suc j) lt within d = tree_rises es up.1 i j (omega (arith, lt)) (omega (arith, within)) d

-- one more of the last cells
pub one_before : (cells : List Cell) (i n : ℕ) (q v : List ℕ) → i < length cells → ((d : Cell) → q ≡ (slice_index_or cells i d).qual) → ((d : Cell) → v ≡ (slice_index_or cells i d).value) → ((d : Cell) → n ≡ (slice_index_or cells i d).version)
    → insert (map_of (drop (i + 1) cells)) q (v, n) ≡ map_of (drop i cells)
one_before [] i n q v lt a b c = absurd (omega (arith, lt))
one_before (x ∷ cells) zero n q v lt a b c = λ i. insert (map_of cells) (a x i) (b x i, c x i)
one_before (x ∷ cells) (suc i) n q v lt a b c =
    let step : suc (i + 1) ≡ suc i + 1 = omega arith in
    ap (λ (m : ℕ). insert (map_of (drop m (x ∷ cells))) q (v, n)) (sym step) ∙ one_before cells i n q v (omega (arith, lt)) a b c

pub tree_more : (es : List Entry) (e : Entry) → tree_cells es ++ entry_cell e ∷ [] ≡ tree_cells (es ++ e ∷ [])
tree_more [] e = refl
tree_more (f ∷ es) e = ap (λ (cells : List Cell). entry_cell f ∷ cells) (tree_more es e)

-- a copy of a tree's cells has those of its map
pub tree_copied : {E : Type 0} (r : Result (List Cell) E) (es : List Entry) (m : CellMap) → map_of (tree_cells es) ≡ m → IfOk r (λ cells. cells ≡ tree_cells es) → IfOk r (λ cells. Rises cells) → IfOk r (λ cells. cells ≡ cells_in m)
tree_copied (Ok cells) es m is same up = same ∙ cells_are (tree_cells es) (subst Rises same up) ∙ ap cells_in is
tree_copied (Err e) es m is same up = tt
