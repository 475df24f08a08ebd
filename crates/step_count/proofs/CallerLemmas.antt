-- What a caller's proof cites of views and of the histories that fit them.
-- what a test picks of a history: each entry that passes it, at its place, and no other
pub use Rattle.step_count.proofs.FittingHistories.{picked_each, picked_has, one_or_none}
-- a region's part of the store after a history is the replay of what its licence has
pub use Rattle.step_count.proofs.FittingHistories.{region_after}
-- what fits a view that has learnt a greater length fits it as it was
pub use Rattle.step_count.proofs.FittingHistories.{fits_shorter}
-- no two of these numbers are one, where some are of a pass and some of another that it absorbed
pub use Rattle.step_count.proofs.CallerNumbers.{none_different, one_different, different_among}
-- an entry leaves the numbers of logs as they are
pub use Rattle.step_count.proofs.LogLists.{numbers_extended}
-- a store's own entries tell it, so that the history over a named store begins with that store
pub use Rattle.step_count.proofs.FirstLicences.{store_told}
