-- In a history without appends, merges and drops the cell of each place that a put wrote stands, with the value of the last put there.
use Rattle.std.proofs.Common.{◌≡◌, ◌≢◌, ◌⊎◌, inl, inr, ℕ, ◌+◌, List, Some, refl, sym, ap, subst, ◌∙◌}
use Rattle.tsd_base.specs.Points.{DataPoint}
use Rattle.row_key.specs.declared.tables.Table.{Table}
use Rattle.row_key.specs.declared.tables.Table.TheVariants.{Ids, Names, Points}
use Rattle.row_key.specs.Made.{three}
use Rattle.qual_codec.specs.CellDots.{column_qual}
use Rattle.cell_model.specs.declared.row.Row.{Row}
use Rattle.cell_model.specs.declared.events.Entry.{Entry}
use Rattle.cell_model.specs.declared.events.Step.{Step}
use Rattle.cell_model.specs.declared.events.Step.TheVariants.{Open, Read, NextRow, Bump, Claim, PutPoint, AppendPoint, PutMerged, DropCells}
use Rattle.cell_model.specs.History.{History, Had, base_of, len, store_after}
use Rattle.cell_model.specs.History.History.{Base, Then}
use Rattle.cell_model.specs.Lawful.{ClaimBasis, IsLawful, MayStep}
use Rattle.cell_model.specs.Machine.{after, counter_row, kind_qual}
use Rattle.cell_model.specs.Store.{Store, no_cells, place_of, value_at}
use Rattle.batch_job.specs.Storing.{HasOnlyPuts, IsOtherWrite}
use Rattle.batch_job.proofs.Entering.{had_before}
use Rattle.point_lines.proofs.CallerLemmas.{bump_keeps, claim_keeps, put_keeps, rows_differ, tables_differ}
use Rattle.cell_laws.proofs.CallerLemmas.{Changes, column_changes, grows, nothing, stays}
use Rattle.batch_job.proofs.Lower.{PutReads, entry_at-last, entry_at-more, lawful_begins, longer, not_Some, put_reads, same_or_not, stood, trans_begins, value-written, whole}

-- ---- what a put says
-- the cell of each put of a lawful history is one data point, which reads as the point
pub had_reads : (h : History) (e : Entry) (point : DataPoint) (row : Row) (qual value : List ℕ) → IsLawful h → Had h e → e.step ≡ PutPoint point row qual value → PutReads h point row qual value
had_reads h e point row qual value l had is =
    let st = stood h had.0 e had.1 in
    let may = (lawful_begins st.begins l).1.may in
    put_reads st.before h point row qual value (trans_begins (longer whole) st.begins) l (subst (MayStep st.before e.caller) is may)

-- ---- what stands
pub record Stays (h : History) (row : Row) (qual : List ℕ) : Type 0 where
  pub point : DataPoint
  pub value : List ℕ
  pub entry : Entry
  pub had : Had h entry
  pub step_is : entry.step ≡ PutPoint point row qual value
  pub there : value_at (store_after h) row qual ≡ Some value

had_more : (h : History) (x e : Entry) → Had h e → Had (Then h x) e
had_more h x e had = (had.0, entry_at-more h x e had.0 had.1)

module _ (h : History) (x : Entry) (row : Row) (qual : List ℕ) where
  -- the last entry put the cell
  put_now : (point : DataPoint) (value : List ℕ) → x.step ≡ PutPoint point row qual value → Stays (Then h x) row qual
  put_now point value is = record {
    point = point;
    value = value;
    entry = x;
    had = (len h + 1, entry_at-last h x);
    step_is = is;
    there = ap (λ (s : Step). value_at (after (store_after h) (len h + 1) s) row qual) is ∙ value-written (store_after h) row qual value _;
  }

  -- or left it as it was
  left : Stays h row qual → value_at (store_after (Then h x)) row qual ≡ value_at (store_after h) row qual → Stays (Then h x) row qual
  left s same = record { point = s.point; value = s.value; entry = s.entry; had = had_more h x s.entry s.had; step_is = s.step_is; there = same ∙ s.there }

  module _ (in_points : row.table ≡ Points) (lawful : IsLawful (Then h x)) (only_puts : HasOnlyPuts (Then h x)) (s : Stays h row qual) where
    not_in_points : (other : Row) → (other.table ≡ Points → ⊥) → row ≢ other
    not_in_points other never = tables_differ row other (λ e. never (sym e ∙ in_points))

    Ids_not : Ids ≡ Points → ⊥
    Ids_not e = cc

    claims : (t : Table) (bytes q v : List ℕ) → ClaimBasis (store_after h).widths (Had h) x.caller t bytes q v → t ≡ Points → ⊥
    claims Points bytes q v b e = b
    claims Ids bytes q v b e = Ids_not e
    claims Names bytes q v b e = names_not e
      where
        names_not : Names ≡ Points → ⊥
        names_not e = cc

    pub still : (step : Step) → x.step ≡ step → Stays (Then h x) row qual
    still Open is = left s (ap (λ (t : Step). value_at (after (store_after h) (len h + 1) t) row qual) is)
    still (Read r) is = left s (ap (λ (t : Step). value_at (after (store_after h) (len h + 1) t) row qual) is)
    still (NextRow table from to) is = left s (ap (λ (t : Step). value_at (after (store_after h) (len h + 1) t) row qual) is)
    still (Bump kind) is = left s (bump_keeps h x kind row qual is (rows_differ row counter_row qual (kind_qual kind) (not_in_points counter_row Ids_not)))
    still (Claim r q v) is =
        left s (claim_keeps h x r q v row qual is (rows_differ row r qual q (not_in_points r (claims r.table r.bytes q v (subst (MayStep h x.caller) is lawful.1.may)))))
    still (PutPoint point r q v) is = at (same_or_not (place_of row qual) (place_of r q))
      where
        at : (place_of row qual ≡ place_of r q) ⊎ (place_of row qual ≢ place_of r q) → Stays (Then h x) row qual
        at (inl same) = put_now point v (is ∙ (λ i. PutPoint point ((sym same) i).row ((sym same) i).qual v))
        at (inr other) = left s (put_keeps h x point r q v row qual is other)
    still (AppendPoint point r piece) is = absurd (only_puts x (len h + 1, entry_at-last h x) (subst IsOtherWrite (sym is) tt))
    still (PutMerged r q v) is = absurd (only_puts x (len h + 1, entry_at-last h x) (subst IsOtherWrite (sym is) tt))
    still (DropCells r which) is = absurd (only_puts x (len h + 1, entry_at-last h x) (subst IsOtherWrite (sym is) tt))

-- no row has a column
pub no_column_there : (h : History) (row : Row) (v : List ℕ) → IsLawful h → base_of h ≡ no_cells three → HasOnlyPuts h → row.table ≡ Points → value_at (store_after h) row column_qual ≡ Some v → ⊥
no_column_there (Base b) row v lawful base only table is = nothing three row column_qual v (subst (λ (s : Store). value_at s row column_qual ≡ Some v) base is)
no_column_there (Then h x) row v lawful base only table is =
    at (column_changes h x.caller x.step (store_after h) (len h + 1) row table lawful.1.may) (λ before. no_column_there h row v lawful.0 base (λ y had. only y (had_more h x y had)) table before)
  where
    at : Changes (store_after h) (store_after (Then h x)) row x.step → (value_at (store_after h) row column_qual ≡ Some v → ⊥) → ⊥
    at (stays same) go = go (sym same ∙ is)
    at (grows point piece step now) go = only x (len h + 1, entry_at-last h x) (subst IsOtherWrite (sym step) tt)

-- what was put stands
pub put_stays_there : (h : History) (e : Entry) (point : DataPoint) (row : Row) (qual value : List ℕ) → IsLawful h → HasOnlyPuts h → row.table ≡ Points → Had h e → e.step ≡ PutPoint point row qual value → Stays h row qual
put_stays_there (Base b) e point row qual value lawful only_puts table had is = absurd (not_Some e (sym had.1))
put_stays_there (Then h x) e point row qual value lawful only_puts table had is =
    at (λ before. put_stays_there h e point row qual value lawful.0 (λ y has. only_puts y (had_more h x y has)) table before is) (had_before h x e had)
  where
    at : (Had h e → Stays h row qual) → (x ≡ e) ⊎ Had h e → Stays (Then h x) row qual
    at earlier (inl same) = put_now h x row qual point value (ap (λ (y : Entry). y.step) same ∙ is)
    at earlier (inr before) = still h x row qual table lawful only_puts (earlier before) x.step refl
