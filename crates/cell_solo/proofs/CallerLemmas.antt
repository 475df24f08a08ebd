-- What a caller's proof cites of turns.
-- what stays as it was has waited, and stays possible
pub use Rattle.cell_solo.proofs.Plays.{stayed, lives_on}
-- what was placed in a history stands there
pub use Rattle.cell_solo.proofs.Plays.{placed_at}
-- where memory alone is wanting no count of faults need rise, and none does
pub use Rattle.cell_solo.proofs.Plays.{stopped_never, stands_never}
-- what holds of each outcome of a call follows for it
pub use Rattle.cell_solo.proofs.Plays.{on_ok, if_err}
