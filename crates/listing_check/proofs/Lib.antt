pub mod CallerLemmas
mod Spelled
mod Standing
mod Searches
mod OneDot
mod SoundCells
mod Faultless
mod LineTurns
mod OffsetTurns
mod OneFlaw
mod RowTurns
mod KnownRows
mod NoteTurns
mod SoundReports
mod ReportTurns
mod RisingNumbers
