-- What a caller's proof cites of ids, names and kinds, of a look-up among cells, and of flaws.

-- what each reader says, and that each thing is read back
pub use Rattle.listing_check.proofs.Spelled.{counter_back, counter_read, id_back, id_read, is_name_from, kind_back, kind_is, name_back, name_is, name_read, no_name_zero, same_as, same_itself, same_kind}
-- what a binary search among cells that rise finds
pub use Rattle.listing_check.proofs.Searches.{cells_searchable, none_found, value_absent, value_found}
-- what stands in the store of cells is one of them, and of cells that rise each stands
pub use Rattle.listing_check.proofs.Standing.{each_stands, unversioned, value_same}
-- a value that stands, and tests that find nothing
pub use Rattle.listing_check.proofs.SoundCells.{flawless, found_none, found_none_once, there_is_value, value_is_there}
-- of the flaw of a row nothing is kept at first
pub use Rattle.listing_check.proofs.KnownRows.{none_known}
-- a cell has one first flaw, and lines have one list of faults
pub use Rattle.listing_check.proofs.OneFlaw.{faults_once, flaw_once}
