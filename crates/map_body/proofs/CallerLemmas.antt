-- What a caller's proof cites of listings.
-- the store of one line more
pub use Rattle.map_body.proofs.Listings.{store_next}
