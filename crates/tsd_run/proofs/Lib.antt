mod FleetLemmas
mod StdioLemmas
mod RunHeadlineLemmas
mod CompletingLemmas
