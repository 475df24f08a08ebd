pub mod QueryAnswers
pub mod NamedSeries
pub mod KeptSeries
pub mod SeriesGroups
pub mod FilledSeries
