-- What is cited of the crates below.
pub use Rattle.list_lemmas.proofs.ListMembers.{here, there, split, not_in, all_in, pairs_in, pairs_tail, map_in, in_map}
pub use Rattle.list_lemmas.proofs.ListParts.{all_of, pairs_cons, pairs_push, pairs_before, in_filter, to_filter}
pub use Rattle.list_lemmas.proofs.SameLists.{same_rising}
pub use Rattle.list_lemmas.proofs.EntryLemmas.{insert_entry-put, lookup-find, length-entries, sorted-rising}
pub use Rattle.list_lemmas.proofs.BoolTests.{less_if}
pub use Rattle.list_lemmas.proofs.OrderedBytes.{below_behind, not_back, below_from_on, from_on_from_on, not_itself, never_both, less_behind, less_or_not}
pub use Rattle.row_key.proofs.CallerLemmas.{one_key, rows_by_keys as keys_compare, at_width, length_bytes}
pub use Rattle.qual_codec.proofs.CallerLemmas.{one_dots, dot_value, value_dot, no_conflict}
pub use Rattle.cell_model.proofs.CallerLemmas.{value_among-cells_of}
pub use Rattle.cell_laws.proofs.CallerLemmas.{deeds_each, deed_of}
pub use Rattle.cell_laws.proofs.CallerLemmas.{carry, same_widths, seen_widths, begins_first}
pub use Rattle.cell_laws.proofs.CallerLemmas.{same_reading, Grown, ids_grown, accepted_grown, OnlyBetween, grown_behind, grown_between}
pub use Rattle.cell_laws.proofs.CallerLemmas.{first_lawful, each_entry, one_name, names_back, keeps_id as id_keeps, each_reads}
pub use Rattle.cell_laws.proofs.CallerLemmas.{first_fits, wait_made, step_made, made_joined, made_stands, extends_joined, itself, nothing_made}
pub use Rattle.row_scan.proofs.CallerLemmas.{Between, between, between_is, next_has, next_cells, next_least, HasKey, found_key, scan_begins, turn_goes_on, others_pass, skips_pass, turn_ends}
pub use Rattle.row_scan.proofs.CallerLemmas.{rows_differ, placed_next, row_stays, StandAbove, own_stands, wanted_stays, IsOf, StoodRow, row_stood, metric_id, cell_at, ShownCell, shown_accepted, dot_offset, hour_is, one_hour}
