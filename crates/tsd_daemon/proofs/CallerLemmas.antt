-- What a caller's proof cites of connections.
-- the headline holds of each connection that was served in a lawful history, and names keep their ids there
pub use Rattle.tsd_daemon.proofs.HeadlineLemmas.{one_id_each, served_headline}
-- of a connection of which nothing was taken
pub use Rattle.tsd_daemon.proofs.LastTaken.{no_piece_yet}
