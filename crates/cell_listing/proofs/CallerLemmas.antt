-- What a caller's proof cites of the words in `specs/ListedLines` and `specs/Grammar`.

-- the cells that count rise, and each is above the place that they come behind
pub use Rattle.cell_listing.proofs.ListedParts.{above_trans, counted_above, counted_rise}
-- the parts of one more line, at the front
pub use Rattle.cell_listing.proofs.ListedParts.{cell_if, counted_on, other_if, others_on}
-- an other line behind these has at least the first one's number, and each line is a cell that counts or an other one
pub use Rattle.cell_listing.proofs.ListedParts.{counts_all, first_number}
