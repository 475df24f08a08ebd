-- Faults as data.
use Rattle.std.specs.Prelude.{Bool, true, false}
use Rattle.query_text.specs.declared.queries.QueryFault.{QueryFault}
use Rattle.query_text.specs.declared.queries.QueryFault.TheVariants as query
use Rattle.metric_scan.specs.declared.fault.AskFault.{AskFault}
use Rattle.metric_scan.specs.declared.fault.AskFault.TheVariants as ask
use Rattle.series_meta.specs.declared.meta_faults.SeriesFault.{SeriesFault}
use Rattle.series_meta.specs.declared.meta_faults.SeriesFault.TheVariants as text
use Rattle.series_meta.specs.declared.meta_faults.MetaFault.{MetaFault}
use Rattle.series_meta.specs.declared.meta_faults.MetaFault.TheVariants.{Unknown, Duplicate, OutOfMemory, Stopped}

-- a query's fault as one of a text that asks for series
abbrev pub text_fault : QueryFault → SeriesFault
text_fault query.OutOfMemory = text.OutOfMemory
text_fault _ = text.BadSeries

-- it is a fault of steps that look for rows and names
abbrev pub IsOfSteps : AskFault → Type 0
IsOfSteps (ask.TooManyBuckets count) = ⊥
IsOfSteps (ask.BadFilter index) = ⊥
IsOfSteps (ask.Overflow time) = ⊥
IsOfSteps _ = Unit {0}

-- such a fault as one of series; no other comes
abbrev pub meta_fault : AskFault → MetaFault
meta_fault (ask.Unknown kind name) = Unknown kind name
meta_fault (ask.Duplicate time a b) = Duplicate time a b
meta_fault ask.Stopped = Stopped
meta_fault _ = OutOfMemory

-- the fault is that the caller was stopped
abbrev pub is_stop : MetaFault → Bool
is_stop Stopped = true
is_stop _ = false
