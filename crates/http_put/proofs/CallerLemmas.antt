-- What a caller's proof cites of the elements of a put.
-- what was asked ran up to a length that isn't before its start; the rows that it stored are those of its puts
pub use Rattle.http_put.proofs.ElementRuns.{ran_on, ran_rows}
-- the queue of a put that ended early
pub use Rattle.http_put.proofs.ElementRuns.{may_have_put}
