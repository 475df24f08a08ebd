-- What a caller's proof cites of assignments.
-- the entries of one text are those for a name, and an id is told exactly where one of them gave an id
pub use Rattle.http_assign.proofs.TextEntries.{few_entries}
-- texts were asked up to a length that isn't before the first
pub use Rattle.http_assign.proofs.TextRuns.{ran_on}
