-- What a caller's proof cites of jobs on listings.
-- all of what is told was given, nothing was, or a front of it
pub use Rattle.listing_job.proofs.GivenTold.{gives_told, gives_nothing, gives_front, gives_so}
-- a listing was read, and this was told of it
pub use Rattle.listing_job.proofs.GivenTold.{over_read}
