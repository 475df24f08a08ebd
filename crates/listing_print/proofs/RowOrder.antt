-- What is below what in an order, and the order of rows.
use Rattle.std.proofs.Common.{◌≡◌, ℕ, true, false, List, refl, sym, ap, ◌∙◌}
use Rattle.std.specs.declared.cmp.Ordering.{Ordering}
use Rattle.std.specs.declared.cmp.Ordering.TheVariants.{Less, Equal, Greater}
use Rattle.std.specs.Ordering.{nat_cmp, ordering_then, ordering_reverse, is_lt}
use Rattle.std.specs.Cmp.{IsTotalOrder, tied_itself, alike_right, nat_cmp_total}
use Rattle.list_lemmas.specs.BytesOrder.{bytes_cmp}
use Rattle.list_lemmas.proofs.OrderedBytes.{behind, below_behind, less_behind}
use Rattle.row_key.specs.declared.tables.Table.{Table}
use Rattle.row_key.specs.declared.tables.Table.TheVariants.{Ids, Names, Points}
use Rattle.cell_model.specs.declared.row.Row.{Row}
use Rattle.cell_model.specs.Store.{row_cmp, table_number}

pub not_less : (r : Ordering) → r ≡ Less → is_lt r ≡ false → ⊥
not_less Less e f = cc
not_less Equal e f = cc
not_less Greater e f = cc

pub lt_is : (r : Ordering) → r ≡ Less → is_lt r ≡ true
lt_is r e = ap is_lt e

module _ {K : Type 0} {R : K → K → Ordering} (o : IsTotalOrder R) where
  pub turned_less : (a b : K) → R a b ≡ Less → R b a ≡ Greater
  turned_less a b e = o.antisymm b a ∙ ap ordering_reverse e

  pub turned_greater : (a b : K) → R a b ≡ Greater → R b a ≡ Less
  turned_greater a b e = o.antisymm b a ∙ ap ordering_reverse e

  pub not_back : (a b : K) → R a b ≡ Less → is_lt (R b a) ≡ false
  not_back a b e = ap is_lt (turned_less a b e)

  -- what isn't below another is above all that this is above
  pub on_then_below : (a b c : K) → is_lt (R b a) ≡ false → R b c ≡ Less → R a c ≡ Less
  on_then_below a b c n l = at (R a b) refl
    where
      at : (r : Ordering) → R a b ≡ r → R a c ≡ Less
      at Less e = o.trans a b c e l
      at Equal e = o.congr a b c e ∙ l
      at Greater e = absurd (not_less (R b a) (turned_greater a b e) n)

  pub below_then_on : (a b c : K) → R a b ≡ Less → is_lt (R c b) ≡ false → R a c ≡ Less
  below_then_on a b c l n = at (R b c) refl
    where
      at : (r : Ordering) → R b c ≡ r → R a c ≡ Less
      at Less e = o.trans a b c l e
      at Equal e = sym (alike_right o b c a e) ∙ l
      at Greater e = absurd (not_less (R c b) (turned_greater b c e) n)

  pub on_then_on : (a b c : K) → is_lt (R b a) ≡ false → is_lt (R c b) ≡ false → is_lt (R c a) ≡ false
  on_then_on a b c n m = at (R c a) refl
    where
      at : (r : Ordering) → R c a ≡ r → is_lt r ≡ false
      at Less e = absurd (not_less (R c b) (below_then_on c a b e n) m)
      at Equal e = refl
      at Greater e = refl

-- ---- rows

-- the row of the least bytes above a row's
abbrev pub behind_row : Row → Row
behind_row row = record { table = row.table; bytes = behind row.bytes }

pub row_behind : (row : Row) → row_cmp row (behind_row row) ≡ Less
row_behind row = ap (λ r. ordering_then r (bytes_cmp row.bytes (behind row.bytes))) (tied_itself nat_cmp_total (table_number row.table)) ∙ below_behind row.bytes

-- what is above a row isn't below the one behind it
pub above_behind : (row other : Row) → row_cmp row other ≡ Less → is_lt (row_cmp other (behind_row row)) ≡ false
above_behind row other e = at row.table other.table row.bytes other.bytes e
  where
    at : (s t : Table) (xs ys : List ℕ) → ordering_then (nat_cmp (table_number s) (table_number t)) (bytes_cmp xs ys) ≡ Less → is_lt (ordering_then (nat_cmp (table_number t) (table_number s)) (bytes_cmp ys (behind xs))) ≡ false
    at Ids Ids xs ys e = less_behind xs ys e
    at Names Names xs ys e = less_behind xs ys e
    at Points Points xs ys e = less_behind xs ys e
    at Ids Names xs ys e = refl
    at Ids Points xs ys e = refl
    at Names Points xs ys e = refl
    at Names Ids xs ys e = cc
    at Points Ids xs ys e = cc
    at Points Names xs ys e = cc
