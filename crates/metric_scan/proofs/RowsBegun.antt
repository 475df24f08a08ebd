-- The rows of a sub query's metric, of which none was gone through yet.
use Rattle.std.proofs.Common.{◌≡◌, ℕ, List, [], ◌∷◌, subst}
use Rattle.std.specs.Prelude.{None}
use Rattle.std.specs.List.{flat_map}
use Rattle.tsd_base.specs.declared.kinds.Kind.{Kind}
use Rattle.tsd_base.specs.declared.kinds.Kind.TheVariants.{Metric}
use Rattle.query_text.specs.declared.queries.Sub.{Sub}
use Rattle.query_text.specs.declared.queries.Filter.{Filter}
use Rattle.cell_model.specs.Layout.{base_time}
use Rattle.cell_model.specs.Seen.{Seen}
use Rattle.uid_table.specs.Shown.{HasShown}
use Rattle.row_scan.specs.Scans.{IsStart}
use Rattle.metric_scan.specs.declared.fault.AskFault.{AskFault}
use Rattle.metric_scan.specs.declared.metric_rows.MetricRows.{MetricRows}
use Rattle.metric_scan.specs.Parts.{NameOf}
use Rattle.metric_scan.specs.IdFilters.{AreIdFilters}
use Rattle.metric_scan.specs.SubNames.{filter_names, names_in}
use Rattle.metric_scan.specs.ResolvedIds.{AreResolved, IsUnresolved}
use Rattle.metric_scan.specs.Walks.{AreRowsOf, names_of, picks_of, row_range}
use Rattle.metric_scan.proofs.NameIds.{id_later, resolved_joined, unresolved_wider, unresolved_behind}
use Rattle.metric_scan.proofs.WalkSteps.{walk_begins}

abbrev metric_name : Sub → List NameOf
metric_name s = (Metric, s.metric) ∷ []

pub metric_unresolved : (s : Sub) (old new : Seen) (fault : AskFault) → IsUnresolved old (metric_name s) fault new → IsUnresolved old (names_in s) fault new
metric_unresolved s old new fault u = unresolved_wider old new (metric_name s) (flat_map filter_names s.filters) fault u

pub filters_unresolved : (s : Sub) (listed : List Filter) (old mid new : Seen) (fault : AskFault) → listed ≡ s.filters → AreResolved old (metric_name s) mid → IsUnresolved mid (flat_map filter_names listed) fault new → IsUnresolved old (names_in s) fault new
filters_unresolved s listed old mid new fault is r u = unresolved_behind old mid new (metric_name s) (flat_map filter_names s.filters) fault r (subst (λ (l : List Filter). IsUnresolved mid (flat_map filter_names l) fault new) is u)

pub rows_begun : (s : Sub) (start end : ℕ) (listed : List Filter) (rows : MetricRows) (id : ℕ) (old now mid : Seen) → listed ≡ s.filters → AreResolved old (metric_name s) now × HasShown now Metric s.metric id → AreResolved now (flat_map filter_names listed) mid × AreIdFilters mid listed rows.filters.items
    → IsStart mid.base.widths id (base_time start) (base_time end) rows.scan → ((kind : Kind) (i : ℕ) → names_of rows kind i ≡ None) → AreResolved old (names_in s) mid × AreRowsOf s start end mid rows
rows_begun s start end listed rows id old now mid is (metric, shown) (names, by) starts none = (
  resolved_joined old now mid (metric_name s) (flat_map filter_names s.filters) metric (subst (λ (l : List Filter). AreResolved now (flat_map filter_names l) mid) is names),
  record {
    id = id;
    metric = id_later now mid Metric s.metric id names.made.since.extends shown;
    by = subst (λ (l : List Filter). AreIdFilters mid l rows.filters.items) is by;
    walked = walk_begins (row_range id start end mid) (picks_of rows) rows.scan (names_of rows) starts none;
  },
)
