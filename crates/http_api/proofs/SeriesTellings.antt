-- What is told of series.
use Rattle.std.proofs.Common.{◌≡◌, ◌∙◌, ℕ, Bool, refl, sym, ap, subst, Result, Ok, Err}
use Rattle.std.specs.Prelude.{IfErr}
use Rattle.cell_model.specs.Stops.{CountsStops, RoseIf}
use Rattle.cell_model.specs.Stops as rows_stops
use Rattle.cell_model.specs.declared.answers.RowsFault.{RowsFault}
use Rattle.metric_scan.specs.AskFaults as ask_faults
use Rattle.metric_scan.specs.declared.fault.AskFault.{AskFault}
use Rattle.series_meta.specs.MetaFaults as meta_faults
use Rattle.series_meta.specs.declared.meta_faults.MetaFault.{MetaFault}
use Rattle.series_meta.specs.declared.meta_faults.MetaFault.TheVariants.{Unknown, Duplicate, OutOfMemory, Stopped}
use Rattle.http_series.specs.SeriesAnswers.{query_fault}

-- a stop is one as a query's fault
stop_alike : (fault : MetaFault) → ask_faults.is_stop (query_fault fault) ≡ meta_faults.is_stop fault
stop_alike (Unknown kind name) = refl
stop_alike (Duplicate time a b) = refl
stop_alike OutOfMemory = refl
stop_alike Stopped = refl

-- so a reply that fails with it counts the stop
pub series_stops : {T A : Type 0} (fault : MetaFault) (told : AskFault) (r : Result T RowsFault) → told ≡ query_fault fault → IfErr r (λ failed. rows_stops.is_stop failed ≡ ask_faults.is_stop told) → (before now : ℕ)
    → CountsStops {T = A} meta_faults.is_stop (Err fault) before now → CountsStops rows_stops.is_stop r before now
series_stops fault told (Ok x) is alike before now counts = record { grows = counts.grows; rose = tt }
series_stops fault told (Err failed) is alike before now counts = record {
  grows = counts.grows;
  rose = subst (λ (stop : Bool). RoseIf stop before now) (sym (alike ∙ ap ask_faults.is_stop is ∙ stop_alike fault)) counts.rose;
}
