-- What a caller's proof cites of scans, and of the points of rows.
-- ---- the next row
-- a row is between two rows of a table, and the test that says so
pub use Rattle.row_scan.proofs.NextRow.{Between, between, between_is}
-- the next row has a cell, shows the cells that the store has there, and is the least of its range
pub use Rattle.row_scan.proofs.NextRow.{next_has, next_cells, next_least}
-- ---- a scan's turns
-- what a start asks, how a row goes on, and where the range ends; steps in between change nothing
pub use Rattle.row_scan.proofs.Turns.{scan_begins, turn_goes_on, others_pass, skips_pass, turn_ends}
-- a row that was found has a key of the metric
pub use Rattle.row_scan.proofs.Turning.{HasKey, found_key}
-- ---- the entries of a scan in a history
-- the caller's entries stand above a place, in a range of places
pub use Rattle.row_scan.proofs.Whole.{StandAbove, own_stands}
-- a row that is wanted stays so
pub use Rattle.row_scan.proofs.Whole.{wanted_stays}
-- the place of the next entry, and that a row with a cell keeps one
pub use Rattle.row_scan.proofs.Whole.{placed_next, row_stays}
-- rows that rise are of no row twice
pub use Rattle.row_scan.proofs.Counting.{rows_differ}
-- ---- rows and their names
-- a row stood with a key, a metric and pairs of which each is that of a name
pub use Rattle.row_scan.proofs.Names.{IsOf, StoodRow, row_stood}
-- the id of a metric's name, and those of tags
pub use Rattle.row_scan.proofs.Names.{metric_id, pair_ids}
-- ---- cells and their points
-- a cell of the list of a row's cells is one of the store, and the other way round
pub use Rattle.row_scan.proofs.CellsOf.{cell_at, cell_in}
-- a cell that was shown, and what was accepted by it
pub use Rattle.row_scan.proofs.Accepted.{ShownCell, shown_accepted}
-- an offset is within an hour, a time has one hour, and two times that are one have it too
pub use Rattle.row_scan.proofs.Offsets.{dot_offset, hour_is, one_hour}
-- readings of one series and time are of one row
pub use Rattle.row_scan.proofs.OneRow.{one_row}
