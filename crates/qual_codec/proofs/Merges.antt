-- What merging keeps of the dots of cells is one cell, which is at least each of them.
use Rattle.std.proofs.Common.{◌≡◌, ◌⊎◌, inl, inr, ℕ, ◌≤◌, ◌<◌, List, [], ◌∷◌, ◌++◌, length, sym, ap, subst, arith}
use Rattle.std.proofs.lemmas.List.{get_or-map, length-map}
use Rattle.std.proofs.lemmas.List.Elements.{Contains-append_left, Contains-append_cases}
use Rattle.std.specs.Prelude.{pos, All, AllPairs, Contains, FitsSigned}
use Rattle.row_hours.specs.declared.hours.TheConstants.{LAST_OFFSET}
use Rattle.qual_codec.specs.declared.cells.Cell.{Cell}
use Rattle.qual_codec.specs.declared.cells.Item.{Item}
use Rattle.qual_codec.specs.declared.cells.Dot.{Dot}
use Rattle.qual_codec.specs.Items.{IsItem, Rises}
use Rattle.qual_codec.specs.CellDots.{HoldsDots, IsDots, IsPiece, Reads, ReadsByItems, items_of, width_of}
use Rattle.qual_codec.specs.Order.{IsAsGood, IsAtMost}
use Rattle.qual_codec.specs.Merge.{AreDots, Keeps}
use Rattle.qual_codec.specs.MergeSteps.{AreOfCell}
use Rattle.list_lemmas.proofs.ListMembers.{here, there, not_in, split, all_in, in_map, map_in}
use Rattle.list_lemmas.proofs.ListParts.{all_of}
use Rattle.qual_codec.proofs.Columns.{by_items}

-- ---- dots and cells

-- a dot of the cells is one of a cell
pub record DotIn (cells : List Cell) (d : Dot) : Type 0 where
  pub cell : Cell
  pub among : Contains cells cell
  pub dots : List Dot
  pub are : HoldsDots cell.qual cell.value dots
  pub has : Contains dots d

-- a dot of the cells is one of a cell
pub dot_in : (cells : List Cell) (all : List Dot) (d : Dot) → AreDots cells all → Contains all d → DotIn cells d
dot_in [] all d are c = absurd (not_in d (subst (λ (l : List Dot). Contains l d) are c))
dot_in (k ∷ cells) all d (dots, rest, is, are, parts) c = at (Contains-append_cases dots rest d (subst (λ (l : List Dot). Contains l d) parts c)) (dot_in cells rest d are)
  where
    at : Contains dots d ⊎ Contains rest d → (Contains rest d → DotIn cells d) → DotIn (k ∷ cells) d
    at (inl here_) go = record { cell = k; among = here k cells; dots = dots; are = is; has = here_ }
    at (inr later) go = let w = go later in record { cell = w.cell; among = there k w.cell cells w.among; dots = w.dots; are = w.are; has = w.has }

-- the dots of a cell are among those of the cells
pub record CellIn (all : List Dot) (cell : Cell) : Type 0 where
  pub dots : List Dot
  pub are : HoldsDots cell.qual cell.value dots
  pub each : (d : Dot) → Contains dots d → Contains all d

pub cell_in : (cells : List Cell) (all : List Dot) (cell : Cell) → AreDots cells all → Contains cells cell → CellIn all cell
cell_in [] all cell are c = absurd (not_in cell c)
cell_in (k ∷ cells) all cell (dots, rest, is, are, parts) c = at (split k cell cells c) (cell_in cells rest cell are)
  where
    whole : (d : Dot) → Contains (dots ++ rest) d → Contains all d
    whole d = subst (λ (l : List Dot). Contains l d) (sym parts)

    at : (k ≡ cell) ⊎ Contains cells cell → (Contains cells cell → CellIn rest cell) → CellIn all cell
    at (inl same) go = record { dots = dots; are = subst (λ (x : Cell). HoldsDots x.qual x.value dots) same is; each = λ d i. whole d (Contains-append_left dots rest d i) }
    at (inr later) go = let w = go later in record { dots = w.dots; are = w.are; each = λ d i. whole d (behind dots d (w.each d i)) }
      where
        behind : (xs : List Dot) (d : Dot) → Contains rest d → Contains (xs ++ rest) d
        behind [] d i = i
        behind (x ∷ xs) d i = there x d (xs ++ rest) (behind xs d i)

-- a dot of a cell has an item, and its value fits
pub dot_good : (qual value : List ℕ) (dots : List Dot) (d : Dot) → HoldsDots qual value dots → Contains dots d → IsItem d.item × FitsSigned (width_of d.item.len) d.value
dot_good qual value dots d (inl is) c = (all_in IsItem d.item (items_of dots) is.items.each (in_map (λ (x : Dot). x.item) dots d c), all_in (λ (x : Dot). FitsSigned (width_of x.item.len) x.value) d dots is.fits c)
dot_good qual value dots d (inr is) c = let p = all_in IsPiece d dots is.pieces.each c in (p.item, p.fits)

-- a cell has a dot
cell_some : (qual value : List ℕ) (dots : List Dot) → HoldsDots qual value dots → 1 ≤ length dots
cell_some qual value dots (inl is) = let some = is.items.some in let n = length-map dots (λ (x : Dot). x.item) in omega (arith, some, n)
cell_some qual value dots (inr is) = is.pieces.some

-- ---- the merged cell

some_in : {X : Type 0} (xs : List X) → 1 ≤ length xs → (x : X) × Contains xs x
some_in [] le = absurd (omega (arith, le))
some_in (x ∷ xs) le = (x, here x xs)

rises_items : (dots : List Dot) → AllPairs (λ (d e : Dot). d.item.offset < e.item.offset) dots → Rises (items_of dots)
rises_items dots rising i j d lt within =
    let e : Dot = record { item = d; value = pos 0 } in
    let n = length-map dots (λ (x : Dot). x.item) in
    let last : j < length dots = omega (arith, within, n) in
    let up = rising i j e lt last in
    let a = ap (λ (x : Item). x.offset) (get_or-map (λ (x : Dot). x.item) dots i e d (omega (arith, lt, last))) in
    let b = ap (λ (x : Item). x.offset) (get_or-map (λ (x : Dot). x.item) dots j e d last) in
    omega (arith, up, a, b)

module _ (cells : List Cell) (all kept : List Dot) (are : AreDots cells all) (keeps : Keeps all 0 LAST_OFFSET kept) where
  good_dot : (d : Dot) → Contains all d → IsItem d.item × FitsSigned (width_of d.item.len) d.value
  good_dot d c = let w = dot_in cells all d are c in dot_good w.cell.qual w.cell.value w.dots d w.are w.has

  -- the best of each dot is kept
  pub best_of : (d : Dot) → Contains all d → (e : Dot) × Contains kept e × IsAsGood d.item e.item
  best_of d c = let most = (good_dot d c).0.offset in keeps.best d c (omega arith) most

  pub kept_of_cell : 1 ≤ length cells → AreOfCell kept
  kept_of_cell some = record {
    some = some_kept;
    each = all_of IsItem (items_of kept) (λ i c. let w = map_in (λ (x : Dot). x.item) kept i c in subst IsItem w.2 (good_dot w.0 (keeps.each w.0 w.1).0).0);
    rising = rises_items kept keeps.rising;
    fits = all_of (λ (d : Dot). FitsSigned (width_of d.item.len) d.value) kept (λ d c. (good_dot d (keeps.each d c).0).1);
  }
    where
      some_kept : 1 ≤ length (items_of kept)
      some_kept =
          let k = some_in cells some in
          let w = cell_in cells all k.0 are k.1 in
          let d = some_in w.dots (cell_some k.0.qual k.0.value w.dots w.are) in
          let b = best_of d.0 (w.each d.0 d.1) in
          let lt = b.1.1 in
          let n = length-map kept (λ (x : Dot). x.item) in
          omega (arith, lt, n)

  pub kept_at_least : (qual value : List ℕ) → All (λ (c : Cell). ReadsByItems c.qual c.value) cells → IsDots qual value kept → All (λ (c : Cell). IsAtMost c.qual qual) cells
  kept_at_least qual value read is = all_of (λ (c : Cell). IsAtMost c.qual qual) cells at_most
    where
      at_most : (c : Cell) → Contains cells c → IsAtMost c.qual qual
      at_most c i =
          let w = cell_in cells all c are i in
          let r = all_in (λ (x : Cell). ReadsByItems x.qual x.value) c cells read i in
          record {
            items = items_of w.dots;
            others = items_of kept;
            reads = (by_items c.qual c.value r.0 w.dots r.1 w.are).items;
            others_read = is.items;
            each = λ x k.
                let d = map_in (λ (y : Dot). y.item) w.dots x k in
                let b = best_of d.0 (w.each d.0 d.1) in
                (b.0.item, in_map (λ (y : Dot). y.item) kept b.0 b.1, subst (λ (z : Item). IsAsGood z b.0.item) d.2 b.2);
          }

-- cells that read by their items read
pub read_each : (cells : List Cell) → All (λ (c : Cell). ReadsByItems c.qual c.value) cells → All (λ (c : Cell). Reads c.qual c.value) cells
read_each cells read i d lt = let r = read i d lt in (r.0, inl r.1)
