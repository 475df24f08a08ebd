-- Cells of one data point each, in the order of their qualifiers: those in seconds come first.
use Rattle.std.proofs.Common.{◌≡◌, inl, ⊎_elim, ℕ, ℤ, ◌-◌, ◌<◌, Bool, true, false, cond, T, List, [], ◌∷◌, ◌++◌, Equal, map, refl, sym, ap, subst, ◌∙◌, arith}
use Rattle.std.specs.Prelude.{Contains, filter, nat_eq, if◌then◌else◌}
use Rattle.std.specs.Int.{w16, w32, byte_at, to_be_bytes}
use Rattle.std.specs.List.{AllByRecursion}
use Rattle.std.specs.Cmp.{tied_itself}
use Rattle.std.specs.FinMap.{entries_sorted, nat_cmp-IsAntisymmetric}
use Rattle.std.specs.FinMap.Entries.{below_all, is_sorted}
use Rattle.std.specs.Ordering.{eq_by_cmp, nat_cmp, ordering_then}
use Rattle.std.specs.declared.cmp.Ordering.{Ordering}
use Rattle.std.specs.declared.cmp.Ordering.TheVariants.{Less, Greater}
use Rattle.std.proofs.lemmas.Bool.{eqb-true, true≢false}
use Rattle.std.proofs.lemmas.Bool.Decides.{nat_tests}
use Rattle.std.proofs.lemmas.List.Elements.{All-contains, All-from_recursion, All-head}
use Rattle.qual_codec.specs.declared.cells.Cell.{Cell}
use Rattle.qual_codec.specs.declared.cells.Dot.{Dot}
use Rattle.qual_codec.specs.declared.cells.Item.{Item}
use Rattle.qual_codec.specs.CellDots.{IsDots}
use Rattle.qual_codec.specs.Items.{IsItem, item_bytes}
use Rattle.cell_model.specs.declared.row.Row.{Row}
use Rattle.cell_model.specs.declared.events.Content.{Content}
use Rattle.cell_model.specs.declared.events.Place.{Place}
use Rattle.list_lemmas.specs.BytesOrder.{bytes_cmp}
use Rattle.cell_model.specs.PlaceOrder.{place_cmp, row_cmp}
use Rattle.cell_model.specs.Store.{Store, entries, cell_of, cells_of}
use Rattle.qual_codec.specs.Merge.{AreDots, values_at}
use Rattle.batch_job.proofs.FoundCells.{cell_of_dot}
use Rattle.batch_job.proofs.MapLemmas.{first, second, less}
use Rattle.batch_job.proofs.SettleLemmas.{below_from_Less}
use Rattle.batch_job.proofs.Lower.{are_fields, coarse, coarse_high, exact_rows, fine_high, fine_number, here, is_equal, not_in, one_dots, rows_total, split, there}

-- ---- the order of qualifiers
no_order : (x y : ℕ) (rest : Ordering) → y < x → ordering_then (nat_cmp x y) rest ≡ Less → ⊥
no_order x y rest less e = at (nat_cmp x y) refl e
  where
    at : (o : Ordering) → nat_cmp x y ≡ o → ordering_then o rest ≡ Less → ⊥
    at Less is k = let l = below_from_Less x y is in absurd (omega (arith, less, l))
    at Equal is k = let s = nat_cmp-IsAntisymmetric x y is in absurd (omega (arith, less, s))
    at Greater is k = absurd cc

-- an item in milliseconds isn't before one in seconds
fine_behind : (i j : Item) (x y : List ℕ) → IsItem i → IsItem j → i.fine ≡ true → j.fine ≡ false → bytes_cmp (item_bytes i ++ x) (item_bytes j ++ y) ≡ Less → ⊥
fine_behind i j x y is js fine whole e =
    let f = are_fields i is in
    let g = are_fields j js in
    let high = fine_high i.offset 0 (i.len - 1) (f.milliseconds fine).0 (f.milliseconds fine).1 f.flags in
    let low = coarse_high j.offset (j.len - 1) (g.seconds whole).0 g.flags in
    let one = subst (λ b. bytes_cmp ((if b then to_be_bytes w32 (fine_number i.offset 0 (i.len - 1)) else to_be_bytes w16 (coarse i.offset (i.len - 1))) ++ x) (item_bytes j ++ y) ≡ Less) fine e in
    let two = subst (λ b. bytes_cmp (to_be_bytes w32 (fine_number i.offset 0 (i.len - 1)) ++ x) ((if b then to_be_bytes w32 (fine_number j.offset 0 (j.len - 1)) else to_be_bytes w16 (coarse j.offset (j.len - 1))) ++ y) ≡ Less) whole one in
    no_order (byte_at 3 (fine_number i.offset 0 (i.len - 1))) (byte_at 1 (coarse j.offset (j.len - 1))) _ (omega (arith, high, low)) two

-- ---- cells whose qualifiers rise
abbrev pub Rise : List Cell → Type 0
Rise [] = Unit {0}
Rise (c ∷ cells) = AllByRecursion (λ (d : Cell). bytes_cmp c.qual d.qual ≡ Less) cells × Rise cells

behind_all : (row : Row) (e : Place × Content) (es : List (Place × Content)) → eq_by_cmp row_cmp row e.0.row ≡ true → T (below_all place_cmp e.0 es)
    → AllByRecursion (λ (d : Cell). bytes_cmp (cell_of e).qual d.qual ≡ Less) (map cell_of (filter (λ f. eq_by_cmp row_cmp row f.0.row) es))
behind_all row e [] same below = tt
behind_all row e (f ∷ es) same below =
    elim (eq_by_cmp row_cmp row f.0.row) as (λ b. eq_by_cmp row_cmp row f.0.row ≡ b → AllByRecursion (λ (d : Cell). bytes_cmp (cell_of e).qual d.qual ≡ Less) (map cell_of (cond b (f ∷ filter (λ g. eq_by_cmp row_cmp row g.0.row) es) (filter (λ g. eq_by_cmp row_cmp row g.0.row) es)))) [
      | true ↦ λ t.
          let rows : e.0.row ≡ f.0.row = sym (exact_rows row e.0.row (is_equal _ same)) ∙ exact_rows row f.0.row (is_equal _ t) in
          let place : place_cmp e.0 f.0 ≡ Less = less _ (first _ _ below) in
          let here_ : row_cmp e.0.row f.0.row ≡ Equal = ap (row_cmp e.0.row) (sym rows) ∙ tied_itself rows_total e.0.row in
          (ap (λ o. ordering_then o (bytes_cmp e.0.qual f.0.qual)) (sym here_) ∙ place, behind_all row e es same (second _ _ below))
      | false ↦ λ _. behind_all row e es same (second _ _ below)
    ] refl

rising : (row : Row) (es : List (Place × Content)) → T (is_sorted place_cmp es) → Rise (map cell_of (filter (λ e. eq_by_cmp row_cmp row e.0.row) es))
rising row [] sorted = tt
rising row (e ∷ es) sorted =
    elim (eq_by_cmp row_cmp row e.0.row) as (λ b. eq_by_cmp row_cmp row e.0.row ≡ b → Rise (map cell_of (cond b (e ∷ filter (λ g. eq_by_cmp row_cmp row g.0.row) es) (filter (λ g. eq_by_cmp row_cmp row g.0.row) es)))) [
      | true ↦ λ same. (behind_all row e es same (first _ _ sorted), rising row es (second _ _ sorted))
      | false ↦ λ _. rising row es (second _ _ sorted)
    ] refl

pub cells_rise : (s : Store) (row : Row) → Rise (cells_of s row)
cells_rise s row = rising row (entries s) (entries_sorted s.cells)

-- ---- cells of one data point
pub record OneDot (c : Cell) : Type 0 where
  pub dot : Dot
  pub reads : IsDots c.qual c.value (dot ∷ [])

item_of_one : (c : Cell) (o : OneDot c) → IsItem o.dot.item
item_of_one c o = All-head IsItem o.dot.item [] o.reads.items.each

pub only : (x d : Dot) → Contains (x ∷ []) d → x ≡ d
only x d has = ⊎_elim (λ (same : x ≡ d). same) (λ (no : Contains [] d). absurd (not_in d no)) (split x d [] has)

-- the first value at the offset of a data point in seconds is that of one in seconds
pub record CoarseAt (all : List Dot) (offset : ℕ) (v : ℤ) : Type 0 where
  pub dot : Dot
  pub among : Contains all dot
  pub offset_is : dot.item.offset ≡ offset
  pub value_is : dot.value ≡ v
  pub coarse_is : dot.item.fine ≡ false

heads : {x y : ℤ} {xs ys : List ℤ} → x ∷ xs ≡ y ∷ ys → x ≡ y
heads e = cc

pub first_coarse : (cells : List Cell) (all : List Dot) (offset : ℕ) (v : ℤ) (vs : List ℤ) → Rise cells → ((c : Cell) → Contains cells c → OneDot c) → AreDots cells all → values_at offset all ≡ v ∷ vs
    → (e : Dot) → Contains all e → e.item.offset ≡ offset → e.item.fine ≡ false → CoarseAt all offset v
first_coarse [] all offset v vs rise one are is e has at_offset whole = absurd (not_in e (subst (λ (ds : List Dot). Contains ds e) are has))
first_coarse (c ∷ cells) all offset v vs rise one (dots, rest, reads, are, all_is) is e has at_offset whole =
    let o = one c (here c cells) in
    let cons : all ≡ o.dot ∷ rest = all_is ∙ ap (λ (ds : List Dot). ds ++ rest) (one_dots c.qual c.value dots (o.dot ∷ []) reads (inl o.reads)) in
    let found = by_form o (o.dot.item.fine) refl rest are (ap (values_at offset) (sym cons) ∙ is) (subst (λ (ds : List Dot). Contains ds e) cons has) (λ later told. first_coarse cells rest offset v vs rise.1 (λ d i. one d (there c d cells i)) are told e later at_offset whole) in
    record { dot = found.dot; among = subst (λ (ds : List Dot). Contains ds found.dot) (sym cons) found.among; offset_is = found.offset_is; value_is = found.value_is; coarse_is = found.coarse_is }
  where
    by_offset : (d : Dot) (rest : List Dot) (b : Bool) → nat_eq offset d.item.offset ≡ b → d.item.fine ≡ false → values_at offset (d ∷ rest) ≡ v ∷ vs → Contains (d ∷ rest) e → (Contains rest e → values_at offset rest ≡ v ∷ vs → CoarseAt rest offset v) → CoarseAt (d ∷ rest) offset v
    by_offset d rest true t form told there_ go =
        let value : d.value ≡ v = heads (ap (λ b. map (λ (x : Dot). x.value) (cond b (d ∷ filter (λ (x : Dot). nat_eq offset x.item.offset) rest) (filter (λ (x : Dot). nat_eq offset x.item.offset) rest))) (sym t) ∙ told) in
        record { dot = d; among = here d rest; offset_is = sym (eqb-true offset d.item.offset t); value_is = value; coarse_is = form }
    by_offset d rest false t form told there_ go =
        let later : Contains rest e = ⊎_elim
        (λ (same : d ≡ e). absurd (true≢false (sym (nat_eq_itself offset d.item.offset (sym at_offset ∙ ap (λ (x : Dot). x.item.offset) (sym same))) ∙ t)))
        (λ (l : Contains rest e). l)
        (split d e rest there_) in
        let f = go later (ap (λ b. map (λ (x : Dot). x.value) (cond b (d ∷ filter (λ (x : Dot). nat_eq offset x.item.offset) rest) (filter (λ (x : Dot). nat_eq offset x.item.offset) rest))) (sym t) ∙ told) in
        record { dot = f.dot; among = there d f.dot rest f.among; offset_is = f.offset_is; value_is = f.value_is; coarse_is = f.coarse_is }
      where
        nat_eq_itself : (a b : ℕ) → a ≡ b → nat_eq a b ≡ true
        nat_eq_itself a b same = grind (arith, nat_tests)

    by_form : (o : OneDot c) (b : Bool) → o.dot.item.fine ≡ b → (rest : List Dot) → AreDots cells rest → values_at offset (o.dot ∷ rest) ≡ v ∷ vs → Contains (o.dot ∷ rest) e → (Contains rest e → values_at offset rest ≡ v ∷ vs → CoarseAt rest offset v) → CoarseAt (o.dot ∷ rest) offset v
    by_form o false form rest are told there_ go = by_offset o.dot rest (nat_eq offset o.dot.item.offset) refl form told there_ go
    by_form o true form rest are told there_ go = ⊎_elim
        (λ (same : o.dot ≡ e). absurd (true≢false (sym form ∙ ap (λ (x : Dot). x.item.fine) same ∙ whole)))
        (λ (later : Contains rest e).
        let w = cell_of_dot cells rest e are later in
        let p = one w.cell (there c w.cell cells w.among) in
        let same : p.dot ≡ e = only p.dot e (subst (λ (ds : List Dot). Contains ds e) (one_dots w.cell.qual w.cell.value w.dots (p.dot ∷ []) w.reads (inl p.reads)) w.has) in
        let below = All-contains (λ (d : Cell). bytes_cmp c.qual d.qual ≡ Less) cells w.cell (All-from_recursion (λ (d : Cell). bytes_cmp c.qual d.qual ≡ Less) cells rise.0) w.among in
        absurd (fine_behind o.dot.item p.dot.item [] [] (item_of_one c o) (item_of_one w.cell p) form (ap (λ (x : Dot). x.item.fine) same ∙ whole)
        (sym (λ i. bytes_cmp (o.reads.items.qual_is i) (p.reads.items.qual_is i)) ∙ below)))
        (split o.dot e rest there_)
