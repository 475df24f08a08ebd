-- What the cells of a row that facts show allow.
use Rattle.std.proofs.Common.{◌≡◌, ◌⊎◌, inl, inr, ℕ, zero, suc, ◌+◌, ◌<◌, ◌≤◌, false, List, [], ◌∷◌, ◌++◌, length, refl, sym, ap, subst, ◌∙◌, arith}
use Rattle.std.proofs.lemmas.List.{get_or_default}
use Rattle.std.proofs.lemmas.Bool.{false≢true}
use Rattle.std.specs.Cmp.Lexicographic.{nat_list_eq_equiv}
use Rattle.std.specs.Prelude.{Contains, slice_index_or, Option, None, Some, IfSome, IsTrue, ◌↔◌}
use Rattle.row_key.specs.declared.tables.Table.TheVariants.{Points}
use Rattle.qual_codec.specs.declared.cells.Dot.{Dot}
use Rattle.qual_codec.specs.declared.cells.Item.{Item}
use Rattle.qual_codec.specs.CellDots.{HoldsDots, IsDots, column_qual, items_of}
use Rattle.qual_codec.specs.Order.{IsAsGood, IsBelow}
use Rattle.qual_codec.proofs.CallerLemmas.{by_items_alone}
use Rattle.cell_model.specs.declared.row.Row.{Row}
use Rattle.cell_model.specs.Lawful.{MergedBasis, DropBasis}
use Rattle.cell_model.specs.Store.{same_bytes}
use Rattle.cell_model.specs.Seen.{Seen, KnowsCell}
use Rattle.test_rows.specs.declared.fact.Fact.{Fact}
use Rattle.test_rows.specs.declared.fact.Fact.TheVariants.{Cell}
use Rattle.test_rows.specs.Facts.{AllHold}
use Rattle.test_rows.specs.Merges.{AllWithin, StandsIn, HasAbove, AllBelow}
use Rattle.list_lemmas.proofs.ListMembers.{not_in, map_in, in_map}
use Rattle.test_rows.proofs.Holding.{shown_known, last_or_before}

at_or_below : (k i : ℕ) → k < i + 1 → (k ≡ i) ⊎ (k < i)
at_or_below zero zero lt = inl refl
at_or_below zero (suc i) lt = inr (omega arith)
at_or_below (suc k) zero lt = absurd (omega (arith, lt))
at_or_below (suc k) (suc i) lt = elim (at_or_below k i (omega (arith, lt))) [ inl e ↦ inl (omega (arith, e)) | inr l ↦ inr (omega (arith, l)) ]

-- what holds of each element before a place and of the one there
pub next_too : {X : Type 0} (P : X → Type 0) (xs : List X) (i : ℕ) (e : X) → i < length xs → ((k : ℕ) (d : X) → k < i → P (slice_index_or xs k d)) → P (slice_index_or xs i e) → (k : ℕ) (d : X) → k < i + 1 → P (slice_index_or xs k d)
next_too {X = X} P xs i e within before here k d lt = at (at_or_below k i lt)
  where
    at : (k ≡ i) ⊎ (k < i) → P (slice_index_or xs k d)
    at (inl same) = subst (λ (n : ℕ). P (slice_index_or xs n d)) (sym same) (subst P (get_or_default xs i e d within) here)
    at (inr less) = before k d less

-- and so of all
pub of_all : {X : Type 0} (P : X → Type 0) (xs : List X) (i : ℕ) → length xs ≤ i → ((k : ℕ) (d : X) → k < i → P (slice_index_or xs k d)) → (d : X) → Contains xs d → P d
of_all P xs i most each d c = subst P c.2 (each c.0 d (let lt = c.1 in omega (arith, most, lt)))

-- a cell that reads and isn't the column has its data points by its items
pub not_column : (qual value : List ℕ) (dots : List Dot) → (IsTrue false ↔ (qual ≡ column_qual)) → HoldsDots qual value dots → IsDots qual value dots
not_column qual value dots other = by_items_alone qual value dots (λ is. false≢true (other.1 is))

as_good : (i : Item) → IsAsGood i i
as_good i = record { offset = refl; better = inr (refl, omega arith) }

-- a cell with more data points than another is above it
pub below : (qual above v w : List ℕ) (low high : List Dot) → (qual ≡ above → ⊥) → IsDots qual v low → IsDots above w high → AllWithin low high → IsBelow qual above
below qual above v w low high other r s all = record {
  at_most = record {
    items = items_of low;
    others = items_of high;
    reads = r.items;
    others_read = s.items;
    each = λ i c.
        let m = map_in (λ (d : Dot). d.item) low i c in
        (i, subst (λ (j : Item). Contains (items_of high) j) m.2 (in_map (λ (d : Dot). d.item) high m.0 (all m.0 m.1)), as_good i);
  };
  differ = other;
}

-- byte strings that a test told apart
pub told_apart : (a b : List ℕ) → false ≡ same_bytes a b → a ≡ b → ⊥
told_apart a b is same = false≢true (is ∙ ap (same_bytes a) (sym same) ∙ nat_list_eq_equiv.refl a)

-- a cell whose data points all stand may be merged
pub merge_known : (s : Seen) (facts : List Fact) (row : Row) (qual value : List ℕ) (dots : List Dot) → AllHold s facts → row.table ≡ Points → IsDots qual value dots → ((d : Dot) → Contains dots d → StandsIn facts row d) → MergedBasis (KnowsCell s row) row qual value
merge_known s facts row qual value dots all points reads stand = record {
  in_points = points;
  dots = dots;
  reads = reads;
  each = λ d c. let x = stand d c in (x.qual, x.value, x.dots, shown_known s facts row x.qual x.value all x.shown, x.reads, x.among);
}

-- cells that others stand above may be dropped
pub drop_known : (s : Seen) (facts : List Fact) (row : Row) (which : List (List ℕ × ℕ)) → AllHold s facts → row.table ≡ Points → AllBelow facts row which → DropBasis (KnowsCell s row) row which
drop_known s facts row which all points below = record { in_points = points; each = λ d c. let x = below d c in (x.above, x.value, shown_known s facts row x.above x.value all x.shown, x.below) }

pub none_below : (facts : List Fact) (row : Row) (which : List (List ℕ × ℕ)) → which ≡ [] → AllBelow facts row which
none_below facts row which is = subst (AllBelow facts row) (sym is) (λ d c. absurd (not_in d c))

-- a fact has one qualifier
pub cell_qual : (fact : Fact) (row other : Row) (qual more value held : List ℕ) (version read : Option ℕ) → fact ≡ Cell row qual value version → fact ≡ Cell other more held read → qual ≡ more
cell_qual fact row other qual more value held version read is was = cc

pub if_some : {T : Type 0} {P Q : T → Type 0} (o : Option T) → ((x : T) → P x → Q x) → IfSome o P → IfSome o Q
if_some (Some x) f p = f x p
if_some None f p = p

pub more_below : (facts : List Fact) (row : Row) (which more : List (List ℕ × ℕ)) (qual : List ℕ) (version : ℕ) → more ≡ which ++ (qual, version) ∷ [] → AllBelow facts row which → HasAbove facts row qual → AllBelow facts row more
more_below facts row which more qual version is all above = subst (AllBelow facts row) (sym is) (λ d c. at d (last_or_before which (qual, version) d c))
  where
    at : (d : List ℕ × ℕ) → ((qual, version) ≡ d) ⊎ Contains which d → HasAbove facts row d.0
    at d (inl same) = subst (λ (e : List ℕ × ℕ). HasAbove facts row e.0) same above
    at d (inr before) = all d before

pub some_is : {T : Type 0} (P : T → Type 0) (o : Option T) (x : T) → o ≡ Some x → IfSome o P → P x
some_is P o x is p = subst (λ z. IfSome z P) is p
