-- What a caller's proof cites of the rows of a metric that are gone through.
-- ---- turn by turn
-- a turn goes on from wherever it was
pub use Rattle.metric_scan.proofs.WalkTurns.{Going, going_from, under_way, turn_is, picks_still}
-- where it was given up there may be one entry more
pub use Rattle.metric_scan.proofs.WalkSteps.{counted_wider, given_up}
-- a fault is handed on
pub use Rattle.metric_scan.proofs.NameReads.{passed_on}
-- ---- rows of one series
-- the hours of its rows rise, a time of an earlier hour is before a later one, and offsets are within an hour
pub use Rattle.metric_scan.proofs.ScanSteps.{hours_rise, hour_before}
pub use Rattle.query_run.proofs.RowPoints.{are_offsets}
-- ---- the names of ids
-- the same tags have the same ids, and lists of which each element has tags of its own keep so in any order
pub use Rattle.metric_scan.proofs.TagNames.{same_ids, zip_left, zip_push, zip_right}
pub use Rattle.query_run.proofs.Titles.{still_differ}
-- names that were shown are those of each history, and no two ids have one
pub use Rattle.query_run.proofs.Standing.{named_by, named_in, one_to_one}
-- the row is picked exactly where its tags pass the filters (`plain_row`: by ids alone, where no test is of text)
pub use Rattle.query_run.proofs.RowReadings.{PicksBy}
-- ---- what stands of the names of a sub query in each history
pub use Rattle.query_run.proofs.OneSub.{Begun, begun, first_unknown, made_all, steps_all, metric_known, metric_named, widths_in, widths_here, counted_here, all_resolved, stood, pick_row, plain_row, few_later}
-- reads are steps of a query
pub use Rattle.metric_scan.proofs.WalkSteps.{reads_steps}
-- the entries are few
pub use Rattle.query_run.proofs.Short.{few_rows, few_looks}
