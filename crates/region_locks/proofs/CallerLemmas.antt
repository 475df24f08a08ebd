-- What the crates above cite.
pub use Rattle.region_locks.proofs.GreaterViews.{absorbed_made, caller_absorbed, caller_learned, caller_met, did_open, different_as, extends_from, made_from, numbers_as, opener_first}
pub use Rattle.region_locks.proofs.JoinedEnds.{ends, opened_all}
pub use Rattle.region_locks.proofs.SeenViews.{possible}
pub use Rattle.region_locks.proofs.UnopenedRegions.{all_unopened}
