-- What a caller may cite beside the contracts.

-- the history in which the one caller of an empty store has opened is lawful
pub use Rattle.lone_store.proofs.EmptyStores.{begun_lawful}
