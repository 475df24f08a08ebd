-- What is cited of the crates below.
pub use Rattle.list_lemmas.proofs.ListMembers.{here, there, split, not_in, map_in, in_map}
pub use Rattle.list_lemmas.proofs.ListParts.{in_filter, to_filter}
pub use Rattle.list_lemmas.proofs.SameLists.{same_rising}
pub use Rattle.list_lemmas.proofs.EntryLemmas.{sorted_from_rising}
pub use Rattle.list_lemmas.proofs.BoolTests.{is_equal, nat_eq_is, nat_eq-refl, not_Some, same_Some}
pub use Rattle.row_key.proofs.CallerLemmas.{one_key, rows_by_keys as keys_compare, key_length, length_bytes}
pub use Rattle.qual_codec.proofs.CallerLemmas.{items_once, one_dots, dot_value, value_dot, are_fields, coarse, coarse_high, fine_high, fine_number, even_items, long_fields}
pub use Rattle.cell_model.proofs.CallerLemmas.{rows_total, places_total, exact_rows, same_or_not, content-written_other, value_among-cells_of as cells_have}
pub use Rattle.cell_laws.proofs.CallerLemmas.{Begins, whole, longer, base_widths}
pub use Rattle.cell_laws.proofs.CallerLemmas.{trans_begins, lawful_begins, bounded, entry_at-last, entry_at-more, stood}
pub use Rattle.cell_laws.proofs.CallerLemmas.{inside, out_before, out_behind, deeds_beyond, deeds_joined, IsDeed, deeds_each}
pub use Rattle.cell_laws.proofs.CallerLemmas.{same_kind, not_zero, Names_Ids, claim_wrote, Counted, given_counts, counter_written, held_there, number-bytes as id_read_back}
pub use Rattle.cell_laws.proofs.CallerLemmas.{had_cell, value-written, key_resolves, metric_resolves, value_resolves, name_keeps, PutReads, put_dot, put_reads, tags_once}
pub use Rattle.cell_laws.proofs.CallerLemmas.{first_lawful, each_entry, keeps_id as id_kept, names_back, sound_after, standing_accepted, first_fits}
pub use Rattle.row_scan.proofs.CallerLemmas.{cell_at, cell_in, StoodRow, metric_id, pair_ids, row_stood, dot_offset, hour_is, one_row}
