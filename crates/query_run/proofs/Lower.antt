-- What is cited of the crates below.
pub use Rattle.list_lemmas.proofs.ListMembers.{here, there, split, not_in, pairs_in, pairs_tail, map_in, in_map}
pub use Rattle.list_lemmas.proofs.ListParts.{all_of, pairs_cons}
pub use Rattle.list_lemmas.proofs.SameLists.{same_rising}
pub use Rattle.list_lemmas.proofs.EntryLemmas.{insert_entry-put, lookup-find}
pub use Rattle.row_key.proofs.CallerLemmas.{one_key}
pub use Rattle.qual_codec.proofs.CallerLemmas.{one_dots, dot_value, value_dot, no_conflict}
pub use Rattle.cell_model.proofs.CallerLemmas.{value_among-cells_of}
pub use Rattle.cell_laws.proofs.CallerLemmas.{deeds_each, deed_of}
pub use Rattle.cell_laws.proofs.CallerLemmas.{seen_widths}
pub use Rattle.cell_laws.proofs.CallerLemmas.{same_reading, Grown, ids_grown, accepted_grown, OnlyBetween, grown_behind, grown_between}
pub use Rattle.cell_laws.proofs.CallerLemmas.{first_lawful, each_entry, names_back}
pub use Rattle.cell_laws.proofs.CallerLemmas.{first_fits, made_joined, made_stands, extends_joined, itself, nothing_made}
pub use Rattle.row_scan.proofs.CallerLemmas.{next_has, scan_begins, others_pass}
pub use Rattle.row_scan.proofs.CallerLemmas.{rows_differ, placed_next, row_stays, StandAbove, own_stands, IsOf, StoodRow, row_stood, metric_id, cell_at, ShownCell, shown_accepted, dot_offset, hour_is}
