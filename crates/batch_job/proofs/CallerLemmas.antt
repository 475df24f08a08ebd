-- What a caller may cite beside the contracts.

-- names that were noted are one
pub use Rattle.point_lines.proofs.CallerLemmas.{ok_is}
-- a fresh store has no names and no points
pub use Rattle.batch_job.proofs.Beginning.{naming_begins}
