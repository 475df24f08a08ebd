-- What a caller's proof cites of workers that are taken back.
-- nothing was given back
pub use Rattle.worker_returns.proofs.GatheringLemmas.{none_end, none_gathered}
-- what was gathered stays so for all that is seen later, and where the clock's count rose
pub use Rattle.worker_returns.proofs.GatheringLemmas.{gathered_later}
-- one more caller's connections were given back, or for want of memory none of them was
pub use Rattle.worker_returns.proofs.GatheringLemmas.{absorbed_own, extends_same, gathered_either, made_same, own_new}
-- their counts
pub use Rattle.worker_returns.proofs.GatheringLemmas.{from_none, one_taken, taken_from_none}
