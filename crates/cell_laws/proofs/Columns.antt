-- The column of appends: it is never dropped or written over, and what stands in it stands at its front ever after.
use Rattle.std.proofs.Common.{◌≡◌, ◌≢◌, ◌⊎◌, inl, inr, ℕ, ◌+◌, ◌%◌, ◌^◌, ◌≤◌, Bool, true, false, List, [], ◌∷◌, ◌++◌, refl, sym, ap, subst, ◌∙◌, append_assoc}
use Rattle.std.proofs.lemmas.List.{append-nil}
use Rattle.std.specs.Prelude.{Option, None, Some, option_map, nat_lt, if◌then◌else◌, Contains}
use Rattle.std.specs.Int.{w64, to_be_bytes}
use Rattle.row_key.specs.declared.tables.Table.TheVariants.{Ids, Points}
use Rattle.tsd_base.specs.Points.{DataPoint}
use Rattle.qual_codec.specs.CellDots.{column_qual, items_of}
use Rattle.qual_codec.proofs.CallerLemmas.{items_no_column}
use Rattle.list_lemmas.proofs.BoolTests.{same_Some}
use Rattle.list_lemmas.proofs.ListMembers.{here, there}
use Rattle.cell_model.specs.declared.row.Row.{Row}
use Rattle.cell_model.specs.declared.events.Place.{Place}
use Rattle.cell_model.specs.declared.events.Content.{Content}
use Rattle.cell_model.specs.declared.events.Step.{Step}
use Rattle.cell_model.specs.declared.events.Step.TheVariants.{Open, Read, NextRow, Bump, Claim, PutPoint, AppendPoint, PutMerged, DropCells}
use Rattle.cell_model.specs.Store.{Store, place_of, get, remove, content_at, value_at, with_cells, written, appended, or_nothing, is_dropped, dropped}
use Rattle.cell_model.specs.Machine.{after, or_written, counter_row, counter_of, kind_qual, greatest}
use Rattle.cell_model.specs.History.{History, len, store_after, first, Had}
use Rattle.cell_model.specs.History.History.{Base, Then}
use Rattle.cell_model.specs.Lawful.{IsLawful, MayStep}
use Rattle.cell_model.proofs.CallerLemmas.{content-written_other, get-removed_other, same_or_not}
use Rattle.cell_laws.specs.Laws.{ColumnGrows}
use Rattle.cell_laws.proofs.Beginnings.{Begins}
use Rattle.cell_laws.proofs.Beginnings.Begins.{whole, longer}
use Rattle.cell_laws.proofs.Keeps.{lawful_begins}
use Rattle.cell_laws.proofs.LawsHold.{begins_first, first_first}
use Rattle.cell_laws.proofs.Known.{no_points_claim, value-written}

-- a qualifier is the column's, or it isn't
pub column_or_not : (q : List ℕ) → (q ≡ column_qual) ⊎ (q ≡ column_qual → ⊥)
column_or_not q = at (same_or_not (place_of counter_row q) (place_of counter_row column_qual))
  where
    at : (place_of counter_row q ≡ place_of counter_row column_qual) ⊎ (place_of counter_row q ≢ place_of counter_row column_qual) → (q ≡ column_qual) ⊎ (q ≡ column_qual → ⊥)
    at (inl same) = inl (ap (λ (p : Place). p.qual) same)
    at (inr other) = inr (λ e. other (ap (place_of counter_row) e))

-- ---- one step

same_value : (s s' : Store) (row : Row) (q : List ℕ) → get s' (place_of row q) ≡ get s (place_of row q) → value_at s' row q ≡ value_at s row q
same_value s s' row q e = ap (option_map (λ (c : Content). c.value)) e

written_beside : (s : Store) (row r : Row) (qual value : List ℕ) (version : ℕ) → (qual ≡ column_qual → ⊥) → value_at (written s r qual value version) row column_qual ≡ value_at s row column_qual
written_beside s row r qual value version other =
    same_value s (written s r qual value version) row column_qual (content-written_other s r qual value version (place_of row column_qual) (λ e. other (sym (ap (λ (p : Place). p.qual) e))))

written_elsewhere : (s : Store) (row r : Row) (qual value : List ℕ) (version : ℕ) → (r ≡ row → ⊥) → value_at (written s r qual value version) row column_qual ≡ value_at s row column_qual
written_elsewhere s row r qual value version other =
    same_value s (written s r qual value version) row column_qual (content-written_other s r qual value version (place_of row column_qual) (λ e. other (sym (ap (λ (p : Place). p.row) e))))

dropped_beside : (s : Store) (row r : Row) (which : List (List ℕ × ℕ)) → ((d : List ℕ × ℕ) → Contains which d → d.0 ≡ column_qual → ⊥) → get (dropped s r which) (place_of row column_qual) ≡ get s (place_of row column_qual)
dropped_beside s row r [] never = refl
dropped_beside s row r (d ∷ which) never =
    elim (is_dropped (content_at s r d.0) d.1) as (λ b. get (dropped (if b then remove s (place_of r d.0) else s) r which) (place_of row column_qual) ≡ get s (place_of row column_qual)) [
      | true ↦
          dropped_beside (remove s (place_of r d.0)) row r which (λ x c. never x (there d x which c))
          ∙ get-removed_other s (place_of r d.0) (place_of row column_qual) (λ e. never d (here d which) (sym (ap (λ (p : Place). p.qual) e)))
      | false ↦ dropped_beside s row r which (λ x c. never x (there d x which c))
    ]

-- a step leaves the row's column, or appends to it
pub data Changes (s s' : Store) (row : Row) (step : Step) : Type 0 where
  stays : value_at s' row column_qual ≡ value_at s row column_qual → Changes s s' row step
  grows : (point : DataPoint) (piece : List ℕ) → step ≡ AppendPoint point row piece → value_at s' row column_qual ≡ Some (or_nothing (value_at s row column_qual) ++ piece) → Changes s s' row step

pub column_changes : (h : History) (caller : ℕ) (step : Step) (s : Store) (place : ℕ) (row : Row) → row.table ≡ Points → MayStep h caller step → Changes s (after s place step) row step
column_changes h caller Open s place row p may = stays refl
column_changes h caller (Read r) s place row p may = stays refl
column_changes h caller (NextRow table from to) s place row p may = stays refl
column_changes h caller (Bump kind) s place row p may =
    elim (nat_lt (counter_of s kind) (greatest s.widths kind)) as (λ b. Changes s (with_cells s (if b then written s counter_row (kind_qual kind) (to_be_bytes w64 (counter_of s kind + 1)) (place % 2 ^ 64) else s)) row (Bump kind)) [
      | true ↦ stays (written_elsewhere s row counter_row (kind_qual kind) _ _ (λ e. let t : Ids ≡ Points = ap (λ (r : Row). r.table) e ∙ p in cc))
      | false ↦ stays refl
    ]
column_changes h caller (Claim r qual value) s place row p may =
    elim (value_at s r qual) as (λ o. Changes s (with_cells s (or_written o (written s r qual value (place % 2 ^ 64)) s)) row (Claim r qual value)) [
      | None ↦ stays (written_elsewhere s row r qual value _ (λ e. no_points_claim (store_after h).widths (Had h) caller r.table r.bytes qual value (ap (λ (y : Row). y.table) e ∙ p) may))
      | Some v ↦ stays refl
    ]
column_changes h caller (PutPoint point r qual value) s place row p may = stays (written_beside s row r qual value _ (items_no_column qual _ may.layout.dot.items))
column_changes h caller (AppendPoint point r piece) s place row p may = at (same_or_not (place_of row column_qual) (place_of r column_qual))
  where
    n : ℕ
    n = place % 2 ^ 64

    at : (place_of row column_qual ≡ place_of r column_qual) ⊎ (place_of row column_qual ≢ place_of r column_qual) → Changes s (with_cells s (appended s r piece n)) row (AppendPoint point r piece)
    at (inl same) =
        let e : row ≡ r = ap (λ (q : Place). q.row) same in
        subst (λ (x : Row). Changes s (with_cells s (appended s r piece n)) x (AppendPoint point r piece)) (sym e) (grows point piece refl (value-written s r column_qual (or_nothing (value_at s r column_qual) ++ piece) n))
    at (inr other) = stays (same_value s (appended s r piece n) row column_qual (content-written_other s r column_qual _ n (place_of row column_qual) other))
column_changes h caller (PutMerged r qual value) s place row p may = stays (written_beside s row r qual value _ (items_no_column qual (items_of may.dots) may.reads.items))
column_changes h caller (DropCells r which) s place row p may =
    stays (same_value s (dropped s r which) row column_qual (dropped_beside s row r which (λ d c. let b = may.each d c in items_no_column d.0 b.3.at_most.items b.3.at_most.reads)))

-- ---- any number of them

-- the row's column has these bytes at its front
abbrev pub HasFront : Store → Row → List ℕ → Type 0
HasFront s row v = (more : List ℕ) × (value_at s row column_qual ≡ Some (v ++ more))

front_stays : (s s' : Store) (row : Row) (v : List ℕ) (step : Step) → Changes s s' row step → value_at s row column_qual ≡ Some v → HasFront s' row v
front_stays s s' row v step (stays same) is = ([], same ∙ is ∙ ap (λ (x : List ℕ). Some x) (sym (append-nil v)))
front_stays s s' row v step (grows point piece step_is now) is = (piece, now ∙ ap (λ (o : Option (List ℕ)). Some (or_nothing o ++ piece)) is)

pub column_grows : {h0 h : History} (row : Row) (v : List ℕ) → Begins h0 h → IsLawful h → row.table ≡ Points → value_at (store_after h0) row column_qual ≡ Some v → HasFront (store_after h) row v
column_grows row v whole l p is = ([], is ∙ ap (λ (x : List ℕ). Some x) (sym (append-nil v)))
column_grows row v (longer {h = h} {e = e} b) l p is =
    let w = column_grows row v b l.0 p is in
    let n = front_stays (store_after h) (store_after (Then h e)) row (v ++ w.0) e.step (column_changes h e.caller e.step (store_after h) (len h + 1) row p l.1.may) w.1 in
    (w.0 ++ n.0, n.1 ∙ ap (λ (x : List ℕ). Some x) (append_assoc v w.0 n.0))

pub column_stands : ColumnGrows
column_stands h n m row value l p le is =
    column_grows row value (subst (λ x. Begins x (first m h)) (first_first n m h le) (begins_first n (first m h))) (lawful_begins (begins_first m h) l) p is
