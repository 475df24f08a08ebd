-- What callers that write lists of their own need.

-- what is written with one more text behind a comma
pub use Rattle.json_reply.proofs.Listing.{comma_before, one_written}
