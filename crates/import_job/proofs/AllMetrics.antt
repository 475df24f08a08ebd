-- The rows of all metrics, compacted metric by metric.
use Rattle.std.proofs.Common.{◌≡◌, ℕ, ◌+◌, ◌≤◌, Bool, true, false, List, [], ◌∷◌, length, refl, sym, ap, subst, ◌∙◌, arith}
use Rattle.std.specs.Prelude.{Option, None, Some, option_map, Contains, nat_le}
use Rattle.std.specs.Option.{option_map_or}
use Rattle.std.specs.Int.{w64, from_be_bytes}
use Rattle.tsd_base.specs.declared.kinds.Kind.TheVariants.{Metric}
use Rattle.row_key.specs.declared.tables.Table.TheVariants.{Points}
use Rattle.row_key.specs.declared.keys.RowKey.{RowKey}
use Rattle.row_key.specs.Key.{IsKey, key_bytes}
use Rattle.row_key.proofs.CallerLemmas.{one_key}
use Rattle.qual_codec.specs.CellDots.{column_qual}
use Rattle.cell_model.specs.declared.row.Row.{Row}
use Rattle.cell_model.specs.declared.events.Content.{Content}
use Rattle.cell_model.specs.History.{History, store_after}
use Rattle.cell_model.specs.KindWidths.{Widths}
use Rattle.cell_model.specs.Lawful.{IsLawful}
use Rattle.cell_model.specs.Machine.{counter_of, counter_row, kind_qual}
use Rattle.cell_model.specs.Readings.{point_row}
use Rattle.cell_model.specs.Store.{Store, cells_of, content_at, value_among, value_at}
use Rattle.cell_model.proofs.CallerLemmas.{value_among-cells_of}
use Rattle.row_scan.proofs.CallerLemmas.{cell_at}
use Rattle.qual_codec.specs.declared.cells.Cell.{Cell}
use Rattle.list_lemmas.proofs.ListMembers.{here}
use Rattle.cell_laws.proofs.CallerLemmas.{row_ids_are_taken}
use Rattle.import_job.specs.Changes.{CompactsAll, CompactsMetric, IsOfMetric, LacksColumn}
use Rattle.import_job.specs.Compactions.{HasSame, IsRowLeft}
use Rattle.import_job.specs.Compactions.IsRowLeft.{few}
use Rattle.import_job.proofs.Walks.{left_after, left_before, same_values}

-- the row is one of the first metrics
abbrev IsOfFirst : Store → ℕ → Row → Type 0
IsOfFirst s count row = (metric : ℕ) × (1 ≤ metric) × (metric ≤ count) × IsOfMetric s metric row

-- the rows of so many metrics were compacted
pub record CompactsTo (count : ℕ) (s t : Store) : Type 0 where
  pub widths : t.widths ≡ s.widths
  pub others : (row : Row) (qual : List ℕ) → ((metric : ℕ) → 1 ≤ metric → metric ≤ count → IsOfMetric s metric row → ⊥) → content_at t row qual ≡ content_at s row qual
  pub rows : (row : Row) (metric : ℕ) → 1 ≤ metric → metric ≤ count → IsOfMetric s metric row → LacksColumn s row → IsRowLeft s t row

pub none_yet : (s t : Store) → t ≡ s → CompactsTo 0 s t
none_yet s t same = record {
  widths = ap (λ (x : Store). x.widths) same;
  others = λ row qual out. ap (λ (x : Store). content_at x row qual) same;
  rows = λ row metric low up of lacks. absurd (omega (arith, low, up));
}

-- a row is of one metric
one_metric : (s : Store) (row : Row) (a b : ℕ) → IsOfMetric s a row → IsOfMetric s b row → a ≡ b
one_metric s row a b (k, is_k, k_metric, k_row) (l, is_l, l_metric, l_row) =
    let bytes : key_bytes s.widths k ≡ key_bytes s.widths l = ap (λ (r : Row). r.bytes) (sym k_row ∙ l_row) in
    let same : k ≡ l = one_key s.widths k l is_k is_l bytes in
    sym k_metric ∙ ap (λ (x : RowKey). x.metric) same ∙ l_metric

module _ (s t u : Store) (count : ℕ) (so_far : CompactsTo count s t) (one : CompactsMetric (count + 1) t u) where
  there : (metric : ℕ) (row : Row) → IsOfMetric s metric row → IsOfMetric t metric row
  there metric row (key, is_key, metric_is, row_is) =
      (key, subst (λ (w : Widths). IsKey w key) (sym so_far.widths) is_key, metric_is, row_is ∙ ap (λ (w : Widths). point_row (key_bytes w key)) (sym so_far.widths))

  back : (metric : ℕ) (row : Row) → IsOfMetric t metric row → IsOfMetric s metric row
  back metric row (key, is_key, metric_is, row_is) =
      (key, subst (λ (w : Widths). IsKey w key) so_far.widths is_key, metric_is, row_is ∙ ap (λ (w : Widths). point_row (key_bytes w key)) so_far.widths)

  now_rows : (row : Row) (metric : ℕ) → 1 ≤ metric → metric ≤ count + 1 → IsOfMetric s metric row → LacksColumn s row → IsRowLeft s u row
  now_rows row metric low up of lacks = at (nat_le metric count) refl
    where
      early : metric ≤ count → IsRowLeft s u row
      early le =
          left_after s t u row (so_far.rows row metric low le of lacks)
          (same_values t u row (λ q. one.others row q (λ last. let same = one_metric s row metric (count + 1) of (back (count + 1) row last) in omega (arith, le, same))))

      late : metric ≡ count + 1 → IsRowLeft s u row
      late is =
          let same : (qual : List ℕ) → content_at t row qual ≡ content_at s row qual = λ qual. so_far.others row qual (λ m l le x. let eq = one_metric s row metric m of x in omega (arith, is, le, eq)) in
          left_before s t u row so_far.widths same
          (one.rows row (subst (λ (m : ℕ). IsOfMetric t m row) is (there metric row of)) (λ value v. lacks value (sym (same_values s t row same column_qual) ∙ v)))

      at : (b : Bool) → nat_le metric count ≡ b → IsRowLeft s u row
      at true e = early (grind (arith, e))
      at false e = let above : count + 1 ≤ metric = grind (arith, e) in late (omega (arith, above, up))

  pub one_more : CompactsTo (count + 1) s u
  one_more = record {
    widths = one.widths ∙ so_far.widths;
    others = λ row qual out.
        one.others row qual (λ last. out (count + 1) (omega arith) (omega arith) (back (count + 1) row last))
        ∙ so_far.others row qual (λ m low le x. out m low (omega (arith, le)) x);
    rows = now_rows;
  }

-- all metrics that were given an id
module _ (g h : History) (count done : ℕ) (le : count ≤ done) (lawful_before : IsLawful g) (lawful : IsLawful h) (counts : counter_of (store_after g) Metric ≡ count) (all : CompactsTo done (store_after g) (store_after h)) where
  abbrev s : Store
  s = store_after g

  abbrev t : Store
  t = store_after h

  not_points : (row : Row) → (row.table ≡ Points → ⊥) → (metric : ℕ) → 1 ≤ metric → metric ≤ done → IsOfMetric s metric row → ⊥
  not_points row other metric low up (key, is_key, metric_is, row_is) = other (ap (λ (r : Row). r.table) row_is)

  same_counter : counter_of t Metric ≡ count
  same_counter =
      ap (λ (o : Option Content). option_map_or (from_be_bytes w64) (option_map (λ (c : Content). c.value) o) 0) (all.others counter_row (kind_qual Metric) (not_points counter_row (λ e. cc))) ∙ counts

  points_is : (row : Row) → row.table ≡ Points → row ≡ point_row row.bytes
  points_is row a = λ i. record { table = a i; bytes = row.bytes }

  -- a row that has a cell afterwards is of such a metric
  of_some : (row : Row) (qual value : List ℕ) → row.table ≡ Points → value_at t row qual ≡ Some value → IsOfFirst s count row
  of_some row qual value in_points is =
      let r = row_ids_are_taken h row.bytes qual value lawful (ap (λ (x : Row). value_at t x qual) (sym (points_is row in_points)) ∙ is) in
      let least = r.1.metric.0 in
      let counted = r.3.metric.counted in
      let most = same_counter in (
        r.0.metric,
        least,
        omega (arith, counted, most),
        (r.0, subst (λ (w : Widths). IsKey w r.0) all.widths r.1, refl, points_is row in_points ∙ ap point_row (r.2 ∙ ap (λ (w : Widths). key_bytes w r.0) all.widths)),
      )

  had_some : (row : Row) (qual value : List ℕ) → row.table ≡ Points → value_at s row qual ≡ Some value → IsOfFirst s count row
  had_some row qual value in_points is =
      let r = row_ids_are_taken g row.bytes qual value lawful_before (ap (λ (x : Row). value_at s x qual) (sym (points_is row in_points)) ∙ is) in
      let least = r.1.metric.0 in
      let counted = r.3.metric.counted in (
        r.0.metric,
        least,
        omega (arith, counted, counts),
        (r.0, r.1, refl, points_is row in_points ∙ ap point_row r.2),
      )

  no_value : {v : List ℕ} → ◌≡◌ {A = Option (List ℕ)} None (Some v) → ⊥
  no_value e = cc

  pub all_compacted : CompactsAll s t
  all_compacted lacks = record {
    widths = all.widths;
    others = λ row other. same_values s t row (λ q. all.others row q (not_points row other));
    rows = each;
  }
    where
      -- a row without a cell either time has the same
      both_none : (row : Row) → cells_of s row ≡ [] → cells_of t row ≡ [] → HasSame s t row
      both_none row a b q = value_among-cells_of t row q ∙ ap (λ cells. value_among cells q) (b ∙ sym a) ∙ sym (value_among-cells_of s row q)

      of_first : (row : Row) → row.table ≡ Points → IsOfFirst s count row → IsRowLeft s t row
      of_first row in_points (metric, low, up, of) = all.rows row metric low (omega (arith, up, le)) of (lacks row in_points)

      each : (row : Row) → row.table ≡ Points → IsRowLeft s t row
      each row in_points = at (cells_of s row) refl (cells_of t row) refl
        where
          at : (xs : List Cell) → cells_of s row ≡ xs → (ys : List Cell) → cells_of t row ≡ ys → IsRowLeft s t row
          at (c ∷ xs) a ys b = of_first row in_points (had_some row c.qual c.value in_points (cell_at s row c (subst (λ (cs : List Cell). Contains cs c) (sym a) (here c xs))))
          at [] a (c ∷ ys) b = of_first row in_points (of_some row c.qual c.value in_points (cell_at t row c (subst (λ (cs : List Cell). Contains cs c) (sym b) (here c ys))))
          at [] a [] b = few (let l = ap length a in omega (arith, l)) (both_none row a b)
