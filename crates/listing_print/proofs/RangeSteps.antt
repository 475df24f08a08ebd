-- One more row of a range, and where a range begins and ends.
use Rattle.std.proofs.Common.{◌≡◌, ℕ, ◌+◌, ◌≤◌, ◌<◌, false, List, [], ◌∷◌, ◌++◌, refl, sym, ap, subst, ◌∙◌, arith}
use Rattle.std.specs.Prelude.{None, Some, Result, Ok, Err, OnOk, OnErr}
use Rattle.std.specs.Int.{w32, to_be_bytes}
use Rattle.std.specs.Ordering.{is_lt}
use Rattle.std.specs.Cmp.Lexicographic.{nat_list_cmp_total}
use Rattle.tsd_base.specs.declared.kinds.Kind.TheVariants.{Metric}
use Rattle.qual_codec.specs.declared.cells.Cell.{Cell}
use Rattle.list_lemmas.specs.BytesOrder.{bytes_cmp}
use Rattle.list_lemmas.proofs.OrderedBytes.{behind}
use Rattle.row_key.specs.declared.tables.Table.{Table}
use Rattle.row_key.specs.declared.tables.Table.TheVariants.{Ids, Names, Points}
use Rattle.row_key.specs.declared.widths.Widths.{Widths}
use Rattle.row_key.specs.Key.{hour_bytes, id_bytes, most_ids}
use Rattle.row_key.proofs.CallerLemmas.{length_bytes}
use Rattle.cell_model.specs.declared.row.Row.{Row}
use Rattle.cell_model.specs.declared.row.Found.{Found}
use Rattle.cell_model.specs.declared.row.ListLine.{ListLine}
use Rattle.cell_model.specs.Machine.{counter_of, counter_row}
use Rattle.cell_model.specs.Ranges.{InOneRange}
use Rattle.cell_model.specs.Sound.{IsSound}
use Rattle.cell_model.specs.Store.{Store, cells_of, next_row_of}
use Rattle.listing_print.specs.LineTaking.{JoinsLines}
use Rattle.listing_print.specs.IdsLeft.{all_ids, least_of, passed_all}
use Rattle.listing_print.specs.MetricRows.{metric_end, metric_start}
use Rattle.listing_print.specs.StoreRows.{TookRows, TookSome, lines_from, row_at, row_lines}
use Rattle.listing_print.specs.declared.ids_left.IdsLeft.{IdsLeft}
use Rattle.listing_print.proofs.IdsTaken.{IdsTaken}
use Rattle.listing_print.proofs.IdOrder.{id_below, same_front}
use Rattle.listing_print.proofs.LeastIds.{counter_fits, ids_begin, ids_on, least_gap, least_on, none_gap}
use Rattle.listing_print.proofs.NextRows.{end_behind, end_on, found_on, next_between, next_cells, next_gap, next_none, range_behind}
use Rattle.listing_print.proofs.RowOrder.{behind_row, not_back}
use Rattle.listing_print.proofs.SoundRows.{before_counters, behind_counters, behind_metrics, between_metrics}
use Rattle.listing_print.proofs.Steps.{rows_begin, rows_end, rows_front, rows_on, rows_over, rows_then, some_then}

-- ---- results

pub ok_map : {T E : Type 0} (r : Result T E) (A B : Type 0) → (A → B) → OnOk r A → OnOk r B
ok_map (Ok x) A B f a = f a
ok_map (Err e) A B f a = tt

pub err_map : {T E : Type 0} (r : Result T E) (A B : Type 0) → (A → B) → OnErr r A → OnErr r B
err_map (Ok x) A B f a = tt
err_map (Err e) A B f a = f a

-- ---- the next row of a range

pub range_left : (s : Store) (table : Table) (next to after : List ℕ) (f : Found) → next_row_of s table next to ≡ Some f → after ≡ f.row.bytes ++ 0 ∷ [] → InOneRange s.widths table next to → InOneRange s.widths table after to
range_left s table next to after f is after_is range = subst (λ (xs : List ℕ). InOneRange s.widths table xs to) (sym after_is) (range_behind s.widths table next to f.row range (next_between s table next to f is))

pub range_forward : (s : Store) (table : Table) (next to after : List ℕ) (f : Found) → next_row_of s table next to ≡ Some f → after ≡ f.row.bytes ++ 0 ∷ [] → is_lt (bytes_cmp to after) ≡ false
range_forward s table next to after f is after_is = subst (λ (xs : List ℕ). is_lt (bytes_cmp to xs) ≡ false) (sym after_is) (end_behind table next to f.row (next_between s table next to f is))

-- ---- metrics

pub metric_range : (w : Widths) (metric : ℕ) → InOneRange w Points (metric_start w metric) (metric_end w metric)
metric_range w metric = record { metric = id_bytes w.metric metric; from_rest = to_be_bytes w32 0; to_rest = to_be_bytes w32 4294967295; whole = length_bytes w.metric metric; from_is = refl; to_is = refl }

pub metric_forward : (w : Widths) (metric : ℕ) → is_lt (bytes_cmp (metric_end w metric) (metric_start w metric)) ≡ false
metric_forward w metric = ap is_lt (same_front (id_bytes w.metric metric) (to_be_bytes w32 4294967295) (to_be_bytes w32 0))

pub range_here : (w v : Widths) (metric : ℕ) (from to : List ℕ) → w ≡ v → from ≡ hour_bytes w metric 0 → to ≡ hour_bytes w metric 4294967295 → InOneRange v Points from to
range_here w v metric from to w_is from_is to_is =
    subst (λ (x : Widths). InOneRange x Points from to) w_is
    (subst (λ (xs : List ℕ). InOneRange w Points xs to) (sym from_is) (subst (λ (xs : List ℕ). InOneRange w Points (metric_start w metric) xs) (sym to_is) (metric_range w metric)))

pub forward_here : (w : Widths) (metric : ℕ) (from to : List ℕ) → from ≡ hour_bytes w metric 0 → to ≡ hour_bytes w metric 4294967295 → is_lt (bytes_cmp to from) ≡ false
forward_here w metric from to from_is to_is = ap (λ (xs : List ℕ). is_lt (bytes_cmp xs from)) to_is ∙ ap (λ (xs : List ℕ). is_lt (bytes_cmp (metric_end w metric) xs)) from_is ∙ metric_forward w metric

next_on : (w : Widths) (before : ℕ) → before + 1 ≤ most_ids w.metric → is_lt (bytes_cmp (metric_start w (before + 1)) (metric_end w before)) ≡ false
next_on w before most = not_back nat_list_cmp_total (metric_end w before) (metric_start w (before + 1)) (id_below w.metric w.metric_fits before (before + 1) (to_be_bytes w32 4294967295) (to_be_bytes w32 0) (omega arith) most)

pub metrics_fit : (s : Store) → IsSound s → (metrics before : ℕ) → metrics ≡ counter_of s Metric → before < metrics → before + 1 ≤ most_ids s.widths.metric
metrics_fit s sound metrics before is lt = let fits = counter_fits s sound Metric in omega (arith, is, lt, fits)

-- ---- what was taken

module _ {S : Type 0} {took ended : List ListLine → S → S → Type 0} (laws : JoinsLines took ended) where
  pub range_on : (s : Store) (table : Table) (first next to after : List ℕ) (f : Found) (a b c : S) → next_row_of s table next to ≡ Some f → after ≡ f.row.bytes ++ 0 ∷ [] → TookRows took s (row_at table first) (row_at table next) a b
      → took (row_lines f.row f.cells) b c → TookRows took s (row_at table first) (row_at table after) a c
  range_on s table first next to after f a b c is after_is so_far on =
      let within = next_between s table next to f is in
      let there : behind_row f.row ≡ row_at table after = λ i. record { table = within.in_table i; bytes = sym after_is i } in
      subst (λ (r : Row). TookRows took s (row_at table first) r a c) there
      (rows_on laws s (row_at table first) (row_at table next) f.row f.cells a b c so_far (found_on table next to f.row within) (next_gap s table next to f is) (next_cells s table next to f is) on)

  pub range_front : (s : Store) (table : Table) (first next to : List ℕ) (f : Found) (a b c : S) → next_row_of s table next to ≡ Some f → TookRows took s (row_at table first) (row_at table next) a b
      → ended (row_lines f.row f.cells) b c → TookSome ended s (row_at table first) a c
  range_front s table first next to f a b c is so_far on =
      let within = next_between s table next to f is in
      rows_front laws s (row_at table first) (row_at table next) f.row f.cells a b c so_far (found_on table next to f.row within) (next_gap s table next to f is) (next_cells s table next to f is) on

  pub range_end : (s : Store) (table : Table) (first next to : List ℕ) (a b : S) → next_row_of s table next to ≡ None → is_lt (bytes_cmp to next) ≡ false → TookRows took s (row_at table first) (row_at table next) a b
      → TookRows took s (row_at table first) (row_at table to) a b
  range_end s table first next to a b none forward so_far = rows_over laws s (row_at table first) (row_at table next) (row_at table to) a b so_far (end_on table next to forward) (next_none s table next to none)

  -- ---- the counters

  pub counters_taken : (s : Store) → IsSound s → (row : Row) (cells : List Cell) (a b : S) → row ≡ counter_row → cells ≡ cells_of s row → took (row_lines row cells) a b → TookRows took s (row_at Ids []) (row_at Ids (1 ∷ [])) a b
  counters_taken s sound row cells a b row_is cells_are on =
      let own : cells ≡ cells_of s counter_row = cells_are ∙ ap (cells_of s) row_is in
      let taken = subst (λ (r : Row). took (row_lines r cells) a b) row_is on in
      rows_over laws s (row_at Ids []) (behind_row counter_row) (row_at Ids (1 ∷ [])) a b
      (rows_on laws s (row_at Ids []) (row_at Ids []) counter_row cells a a b (rows_begin laws s (row_at Ids []) a) refl (before_counters s sound) own taken)
      refl (behind_counters s sound)

  pub counters_front : (s : Store) → IsSound s → (row : Row) (cells : List Cell) (a b : S) → row ≡ counter_row → cells ≡ cells_of s row → ended (row_lines row cells) a b → TookSome ended s (row_at Ids []) a b
  counters_front s sound row cells a b row_is cells_are on =
      let own : cells ≡ cells_of s counter_row = cells_are ∙ ap (cells_of s) row_is in
      let taken = subst (λ (r : Row). ended (row_lines r cells) a b) row_is on in
      rows_front laws s (row_at Ids []) (row_at Ids []) counter_row cells a a b (rows_begin laws s (row_at Ids []) a) refl (before_counters s sound) own taken

  -- ---- ids

  pub ids_start : (s : Store) (ids : IdsLeft) (a : S) → ids ≡ all_ids s → IdsTaken took s ids a a
  ids_start s ids a is = subst (λ (x : IdsLeft). IdsTaken took s x a a) (sym is) (record { bound = []; done = ids_begin s; taken = rows_begin laws s (row_at Names []) a })

  pub ids_next : (s : Store) → IsSound s → (ids ids' : IdsLeft) (r : List ℕ) (cells : List Cell) (a b c : S) → least_of s.widths ids ≡ Some r → ids' ≡ passed_all s.widths ids r → cells ≡ cells_of s (row_at Names r)
      → IdsTaken took s ids a b → took (row_lines (row_at Names r) cells) b c → IdsTaken took s ids' a c
  ids_next s sound ids ids' r cells a b c least ids_are cells_are g on =
      subst (λ (x : IdsLeft). IdsTaken took s x a c) (sym ids_are)
      (record {
        bound = behind r;
        done = ids_on s sound ids g.bound r g.done least;
        taken = rows_on laws s (row_at Names []) (row_at Names g.bound) (row_at Names r) cells a b c g.taken (least_on s ids g.bound r g.done least) (least_gap s sound ids g.bound r g.done least) cells_are on;
      })

  pub ids_front : (s : Store) → IsSound s → (ids : IdsLeft) (r : List ℕ) (cells : List Cell) (a b c : S) → least_of s.widths ids ≡ Some r → cells ≡ cells_of s (row_at Names r)
      → IdsTaken took s ids a b → ended (row_lines (row_at Names r) cells) b c → TookSome ended s (row_at Names []) a c
  ids_front s sound ids r cells a b c least cells_are g on =
      rows_front laws s (row_at Names []) (row_at Names g.bound) (row_at Names r) cells a b c g.taken (least_on s ids g.bound r g.done least) (least_gap s sound ids g.bound r g.done least) cells_are on

  pub ids_end : (s : Store) → IsSound s → (ids : IdsLeft) (a b : S) → least_of s.widths ids ≡ None → IdsTaken took s ids a b → TookRows took s (row_at Names []) (row_at Points (metric_end s.widths 0)) a b
  ids_end s sound ids a b none g = rows_over laws s (row_at Names []) (row_at Names g.bound) (row_at Points (metric_end s.widths 0)) a b g.taken refl (none_gap s sound ids g.bound g.done none)

  -- ---- metrics

  -- behind a metric the next one comes first
  metric_first : (s : Store) → IsSound s → (before : ℕ) (a : S) → before + 1 ≤ most_ids s.widths.metric → TookRows took s (row_at Points (metric_end s.widths before)) (row_at Points (metric_start s.widths (before + 1))) a a
  metric_first s sound before a most =
      let from = row_at Points (metric_end s.widths before) in
      rows_over laws s from from (row_at Points (metric_start s.widths (before + 1))) a a (rows_begin laws s from a)
      (end_on Points (metric_end s.widths before) (metric_start s.widths (before + 1)) (next_on s.widths before most)) (between_metrics s sound before most)

  pub metric_taken : (s : Store) → IsSound s → (before : ℕ) (w : Widths) (from to : List ℕ) (a b : S) → before + 1 ≤ most_ids s.widths.metric → w ≡ s.widths
      → from ≡ hour_bytes w (before + 1) 0 → to ≡ hour_bytes w (before + 1) 4294967295 → TookRows took s (row_at Points from) (row_at Points to) a b
      → TookRows took s (row_at Points (metric_end s.widths before)) (row_at Points (metric_end s.widths (before + 1))) a b
  metric_taken s sound before w from to a b most w_is from_is to_is on =
      let one : from ≡ metric_start s.widths (before + 1) = from_is ∙ ap (λ (x : Widths). hour_bytes x (before + 1) 0) w_is in
      let two : to ≡ metric_end s.widths (before + 1) = to_is ∙ ap (λ (x : Widths). hour_bytes x (before + 1) 4294967295) w_is in
      let taken = subst (λ (xs : List ℕ). TookRows took s (row_at Points xs) (row_at Points (metric_end s.widths (before + 1))) a b) one (subst (λ (xs : List ℕ). TookRows took s (row_at Points from) (row_at Points xs) a b) two on) in
      rows_then laws s (row_at Points (metric_end s.widths before)) (row_at Points (metric_start s.widths (before + 1))) (row_at Points (metric_end s.widths (before + 1))) a a b (metric_first s sound before a most) taken

  pub metric_some : (s : Store) → IsSound s → (before : ℕ) (w : Widths) (from : List ℕ) (a b : S) → before + 1 ≤ most_ids s.widths.metric → w ≡ s.widths
      → from ≡ hour_bytes w (before + 1) 0 → TookSome ended s (row_at Points from) a b → TookSome ended s (row_at Points (metric_end s.widths before)) a b
  metric_some s sound before w from a b most w_is from_is on =
      let one : from ≡ metric_start s.widths (before + 1) = from_is ∙ ap (λ (x : Widths). hour_bytes x (before + 1) 0) w_is in
      some_then laws s (row_at Points (metric_end s.widths before)) (row_at Points (metric_start s.widths (before + 1))) a a b (metric_first s sound before a most)
      (subst (λ (xs : List ℕ). TookSome ended s (row_at Points xs) a b) one on)

  pub metrics_end : (s : Store) → IsSound s → (metrics before : ℕ) (a b : S) → metrics ≡ counter_of s Metric → metrics ≤ before → before ≤ metrics
      → TookRows took s (row_at Points (metric_end s.widths 0)) (row_at Points (metric_end s.widths before)) a b → took (lines_from s (row_at Points (metric_end s.widths 0))) a b
  metrics_end s sound metrics before a b is over within so_far =
      let same : before ≡ counter_of s Metric = omega (arith, is, over, within) in
      let all = subst (λ (n : ℕ). TookRows took s (row_at Points (metric_end s.widths 0)) (row_at Points (metric_end s.widths n)) a b) same so_far in
      rows_end laws s (row_at Points (metric_end s.widths 0)) (row_at Points (metric_end s.widths (counter_of s Metric))) a b all (behind_metrics s sound (counter_fits s sound Metric))
