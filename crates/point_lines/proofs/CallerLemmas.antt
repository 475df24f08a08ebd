-- What the crates above cite beside the definitions.

-- the place of a name among names to which one was added
pub use Rattle.point_lines.proofs.NameLemmas.{id_in-append}
-- names that get their ids one after the other
pub use Rattle.point_lines.proofs.NotedLemmas.{names_last, noted_all-append}
-- names that have their ids, and keep them
pub use Rattle.point_lines.proofs.Known.{IsKnown, AreKnown}
pub use Rattle.point_lines.proofs.KnownLemmas.{NotesAll, err_not_ok, noted_all-known, notes_all, ok_is, same_list}
-- a part of a history in which one caller stepped alone is what it did
pub use Rattle.point_lines.proofs.Follows.{Went, alone_still, base_of_first, first_longer, follow, follow-append, follows, went}
-- what a step leaves of other cells, and which places are apart
pub use Rattle.point_lines.proofs.StepKeeps.{Ids_Points, bump_keeps, claim_keeps, looked, looked_at, no_counter_row, put_keeps, quals_differ, read_keeps, rows_differ, tables_differ}
-- a name that gets the next id of its kind, by four entries, and the kinds that it leaves
pub use Rattle.point_lines.proofs.GivenIds.{fresh, grown, id_is, kinds, list_here, list_other, not_held, numbered_grown, numbered_same, same_bytes}
-- the entries for names that have ids are reads, which keep the store
pub use Rattle.point_lines.proofs.NameReads.{AreReads, lawful_front, names_read, point_names, reads_keep}
