-- Keep: what was ever written to a point row stands, or something strictly above it.
use Rattle.std.proofs.Common.{◌≡◌, ◌≢◌, ◌⊎◌, inl, inr, ℕ, ◌+◌, ◌%◌, ◌^◌, Bool, true, false, List, [], ◌∷◌, refl, sym, ap, subst, ◌∙◌}
use Rattle.std.specs.Prelude.{Option, None, Some, option_map, nat_eq, nat_lt, if◌then◌else◌, Contains}
use Rattle.std.specs.Int.{w64, to_be_bytes}
use Rattle.qual_codec.specs.CellDots.{column_qual}
use Rattle.cell_model.specs.declared.row.Row.{Row}
use Rattle.cell_model.specs.declared.events.Step.{Step}
use Rattle.cell_model.specs.declared.events.Step.TheVariants.{Open, Read, NextRow, Bump, Claim, PutPoint, AppendPoint, PutMerged, DropCells}
use Rattle.qual_codec.specs.Order.{IsBelow}
use Rattle.list_lemmas.proofs.ListMembers.{here, there}
use Rattle.qual_codec.proofs.CallerLemmas.{below_then}
use Rattle.cell_model.specs.declared.events.Place.{Place}
use Rattle.cell_model.specs.declared.events.Content.{Content}
use Rattle.cell_model.specs.Store.{Store, place_of, content_at, value_at, written, is_dropped, dropped, get, remove, with_cells}
use Rattle.cell_model.specs.Machine.{after, stepped, or_written, counter_row, counter_of, kind_qual, greatest}
use Rattle.cell_model.specs.declared.events.Entry.{Entry}
use Rattle.cell_model.specs.History.{History, len, store_after, entry_at, Had}
use Rattle.cell_model.specs.History.History.{Base, Then}
use Rattle.cell_model.specs.Lawful.{MayStep, HadCell, Wrote}
use Rattle.cell_laws.specs.Laws.{Kept, Keep, GreatestStays}
use Rattle.cell_model.proofs.CallerLemmas.{content-written_other, get-removed_other, get-dropped_other, same_or_not}
use Rattle.list_lemmas.proofs.BoolTests.{not_Some}
use Rattle.cell_laws.proofs.Known.{value-written}

value_is : (s s' : Store) (p : Place) → get s p ≡ get s' p → value_at s p.row p.qual ≡ value_at s' p.row p.qual
value_is s s' p e = ap (option_map (λ (c : Content). c.value)) e

-- a write keeps
kept_written : (s : Store) (row r : Row) (q qual value : List ℕ) (version : ℕ) → Kept s row q → Kept (written s r qual value version) row q
kept_written s row r q qual value version k = at (same_or_not (place_of row k.other) (place_of r qual))
  where
    at : (place_of row k.other ≡ place_of r qual) ⊎ (place_of row k.other ≢ place_of r qual) → Kept (written s r qual value version) row q
    at (inl same) = record {
      other = k.other;
      value = value;
      stands = ap (λ (p : Place). value_at (written s r qual value version) p.row p.qual) same ∙ value-written s r qual value version;
      at_least = k.at_least;
    }
    at (inr other) = record {
      other = k.other;
      value = k.value;
      stands = value_is (written s r qual value version) s (place_of row k.other) (content-written_other s r qual value version (place_of row k.other) other) ∙ k.stands;
      at_least = k.at_least;
    }

-- all of a row is kept
abbrev AllKept : History → Row → Store → Type 0
AllKept h row s = (q v : List ℕ) → HadCell h row q v → Kept s row q

-- what is at least q, where the other is at least d and d is at least q
above : (q d other : List ℕ) → (d ≡ q) ⊎ IsBelow q d → IsBelow d other → IsBelow q other
above q d other (inl same) b = subst (λ x. IsBelow x other) same b
above q d other (inr a) b = below_then q d other a b.at_most

above_kept : (d r other : List ℕ) → IsBelow d r → (other ≡ r) ⊎ IsBelow r other → IsBelow d other
above_kept d r other b (inl same) = subst (IsBelow d) (sym same) b
above_kept d r other b (inr a) = below_then d r other b a.at_most

-- one removal keeps, where a written cell is strictly above
removal_keeps : (h : History) (row : Row) (s : Store) (d r v : List ℕ) → AllKept h row s → HadCell h row r v → IsBelow d r → AllKept h row (remove s (place_of row d))
removal_keeps h row s d r v keeps had below q w c = at (same_or_not (place_of row k.other) (place_of row d))
  where
    k : Kept s row q
    k = keeps q w c

    up : Kept s row r
    up = keeps r v had

    higher : IsBelow d up.other
    higher = above_kept d r up.other below up.at_least

    left : (other : List ℕ) → place_of row other ≢ place_of row d → value_at (remove s (place_of row d)) row other ≡ value_at s row other
    left other ne = value_is (remove s (place_of row d)) s (place_of row other) (get-removed_other s (place_of row d) (place_of row other) ne)

    at : (place_of row k.other ≡ place_of row d) ⊎ (place_of row k.other ≢ place_of row d) → Kept (remove s (place_of row d)) row q
    at (inl same) = record {
      other = up.other;
      value = up.value;
      stands = left up.other (λ e. higher.differ (sym (ap (λ (p : Place). p.qual) e))) ∙ up.stands;
      at_least = inr (above q d up.other (subst (λ x. (x ≡ q) ⊎ IsBelow q x) (ap (λ (p : Place). p.qual) same) k.at_least) higher);
    }
    at (inr other) = record { other = k.other; value = k.value; stands = left k.other other ∙ k.stands; at_least = k.at_least }

abbrev Basis : History → Row → List (List ℕ × ℕ) → Type 0
Basis h row which = (d : List ℕ × ℕ) → Contains which d → (q : List ℕ) × (v : List ℕ) × HadCell h row q v × IsBelow d.0 q

drop_keeps : (h : History) (row : Row) (s : Store) (which : List (List ℕ × ℕ)) → Basis h row which → AllKept h row s → AllKept h row (dropped s row which)
drop_keeps h row s [] basis keeps = keeps
drop_keeps h row s (d ∷ which) basis keeps =
    let b = basis d (here d which) in
    elim (is_dropped (content_at s row d.0) d.1) as (λ t. AllKept h row (dropped (if t then remove s (place_of row d.0) else s) row which)) [
      | true ↦ drop_keeps h row (remove s (place_of row d.0)) which (λ x c. basis x (there d x which c)) (removal_keeps h row s d.0 b.0 b.1 keeps b.2 b.3)
      | false ↦ drop_keeps h row s which (λ x c. basis x (there d x which c)) keeps
    ]

drop_other : (h : History) (row r : Row) (s : Store) (which : List (List ℕ × ℕ)) → row ≢ r → AllKept h row s → AllKept h row (dropped s r which)
drop_other h row r s which ne keeps q v c =
    let k = keeps q v c in
    record { other = k.other; value = k.value; stands = value_is (dropped s r which) s (place_of row k.other) (get-dropped_other s r which (place_of row k.other) ne) ∙ k.stands; at_least = k.at_least }

claim_all : (h : History) (row r : Row) (s : Store) (qual value : List ℕ) (version : ℕ) (o : Option (List ℕ)) → AllKept h row s → AllKept h row (or_written o (written s r qual value version) s)
claim_all h row r s qual value version None keeps = λ q v c. kept_written s row r q qual value version (keeps q v c)
claim_all h row r s qual value version (Some w) keeps = keeps

-- other widths keep
widened : (h : History) (row : Row) (s t : Store) → AllKept h row t → AllKept h row (with_cells s t)
widened h row s t keeps q v c = let k = keeps q v c in record { other = k.other; value = k.value; stands = k.stands; at_least = k.at_least }

-- a step keeps
step_all : (h : History) (row : Row) (caller : ℕ) (step : Step) (place : ℕ) (s : Store) → MayStep h caller step → AllKept h row s → AllKept h row (after s place step)
step_all h row caller Open place s may keeps = keeps
step_all h row caller (Read r) place s may keeps = keeps
step_all h row caller (NextRow table from to) place s may keeps = keeps
step_all h row caller (Bump kind) place s may keeps = widened h row s (stepped s place (Bump kind))
    (elim (nat_lt (counter_of s kind) (greatest s.widths kind)) as (λ b. AllKept h row (if b then written s counter_row (kind_qual kind) (to_be_bytes w64 (counter_of s kind + 1)) (place % 2 ^ 64) else s)) [
      | true ↦ λ q v c. kept_written s row counter_row q (kind_qual kind) _ _ (keeps q v c)
      | false ↦ keeps
    ])
step_all h row caller (Claim r qual value) place s may keeps = widened h row s (stepped s place (Claim r qual value)) (claim_all h row r s qual value _ (value_at s r qual) keeps)
step_all h row caller (PutPoint point r qual value) place s may keeps = λ q v c. kept_written s row r q qual value _ (keeps q v c)
step_all h row caller (AppendPoint point r piece) place s may keeps = λ q v c. kept_written s row r q column_qual _ _ (keeps q v c)
step_all h row caller (PutMerged r qual value) place s may keeps = λ q v c. kept_written s row r q qual value _ (keeps q v c)
step_all h row caller (DropCells r which) place s may keeps = widened h row s (dropped s r which) (at (same_or_not (place_of row []) (place_of r [])))
  where
    at : (place_of row [] ≡ place_of r []) ⊎ (place_of row [] ≢ place_of r []) → AllKept h row (dropped s r which)
    at (inl same) = let e = ap (λ (p : Place). p.row) same in
        subst (λ (x : Row). AllKept h x (dropped s r which)) (sym e) (drop_keeps h r s which may.each (subst (λ (x : Row). AllKept h x s) e keeps))
    at (inr other) = drop_other h row r s which (λ e. other (ap (λ (x : Row). place_of x []) e)) keeps

-- where an entry stands: it is the last, or stood before
pub had_split : (h : History) (last e : Entry) → Had (Then h last) e → (last ≡ e) ⊎ Had h e
had_split h last e w = at (nat_eq w.0 (len h + 1)) w.1
  where
    at : (b : Bool) → (if b then Some last else entry_at h w.0) ≡ Some e → (last ≡ e) ⊎ Had h e
    at true is = let same : last ≡ e = cc in inl same
    at false is = inr (w.0, is)

-- a cell that was had: before, or the last entry wrote it
pub cell_split : (h : History) (last : Entry) (row : Row) (q v : List ℕ) → HadCell (Then h last) row q v → HadCell h row q v ⊎ Wrote row q v last.step
cell_split h last row q v (inl base) = inl (inl base)
cell_split h last row q v (inr w) = at (had_split h last w.0 w.1)
  where
    at : (last ≡ w.0) ⊎ Had h w.0 → HadCell h row q v ⊎ Wrote row q v last.step
    at (inl same) = inr (subst (λ (e : Entry). Wrote row q v e.step) (sym same) w.2)
    at (inr had) = inl (inr (w.0, had, w.2))

kept_here : (s : Store) (row r : Row) (q v qual value : List ℕ) (version : ℕ) → (r ≡ row) × (qual ≡ q) × (value ≡ v) → Kept (written s r qual value version) row q
kept_here s row r q v qual value version w =
    record {
      other = qual;
      value = value;
      stands = ap (λ (x : Row). value_at (written s r qual value version) x qual) (sym w.0) ∙ value-written s r qual value version;
      at_least = inl w.1;
    }

wrote_kept : (s : Store) (place : ℕ) (row : Row) (q v : List ℕ) (step : Step) → Wrote row q v step → Kept (after s place step) row q
wrote_kept s place row q v Open w = absurd w
wrote_kept s place row q v (Read r) w = absurd w
wrote_kept s place row q v (NextRow table from to) w = absurd w
wrote_kept s place row q v (Bump kind) w = absurd w
wrote_kept s place row q v (Claim r qual value) w = absurd w
wrote_kept s place row q v (PutPoint point r qual value) w = kept_here s row r q v qual value _ w
wrote_kept s place row q v (AppendPoint point r piece) w = absurd w
wrote_kept s place row q v (PutMerged r qual value) w = kept_here s row r q v qual value _ w
wrote_kept s place row q v (DropCells r which) w = absurd w

pub keep : Keep
keep (Base base) row q v l p (inl is) = record { other = q; value = v; stands = is; at_least = inl refl }
keep (Base base) row q v l p (inr w) = absurd (not_Some w.0 (sym w.1.1))
keep (Then h last) row q v l p c = at (cell_split h last row q v c) (step_all h row last.caller last.step (len h + 1) (store_after h) l.1.may (λ q v c. keep h row q v l.0 p c))
  where
    at : HadCell h row q v ⊎ Wrote row q v last.step → AllKept h row (after (store_after h) (len h + 1) last.step) → Kept (after (store_after h) (len h + 1) last.step) row q
    at (inl before) all = all q v before
    at (inr w) all = wrote_kept (store_after h) (len h + 1) row q v last.step w

pub greatest_stays : GreatestStays
greatest_stays h caller row which d l may d-in g =
    let b = may.each d d-in in
    let k = keep h row b.0 b.1 l may.in_points b.2 in
    g k.other k.value k.stands (above_kept d.0 b.0 k.other b.3 k.at_least)
