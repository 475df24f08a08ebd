-- What a caller's proof cites of names and ids.
-- a pair that was shown is shown by all that is seen later
pub use Rattle.uid_table.proofs.Shows.{shown_kept}
-- so is a point that is placed, and a series that is known
pub use Rattle.uid_table.proofs.Keeping.{IsLater, placed_kept, series_shown_kept}
