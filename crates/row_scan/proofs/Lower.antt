-- What is cited of the crates below.
pub use Rattle.list_lemmas.proofs.ListMembers.{here, there, split, not_in, all_in, pairs_in, pairs_tail, map_in, in_map}
pub use Rattle.list_lemmas.proofs.ListParts.{all_of, in_filter, pairs_before}
pub use Rattle.list_lemmas.proofs.SameLists.{same_rising}
pub use Rattle.row_key.proofs.CallerLemmas.{one_key, hours_between, key_fits, length_bytes}
pub use Rattle.qual_codec.proofs.CallerLemmas.{dot_good, are_next, reads_at, Rise, AreRising, RiseBelow, none_below, rise_push, keeps_rising, HasPieces, all_pieces, none_yet, piece_on, shorter}
pub use Rattle.cell_model.proofs.CallerLemmas.{places_total, exact_rows, exact_places, value_among-cells_of}
pub use Rattle.cell_laws.proofs.CallerLemmas.{Begins, whole, longer}
pub use Rattle.cell_laws.proofs.CallerLemmas.{carry, carry_back}
pub use Rattle.cell_laws.proofs.CallerLemmas.{begins_first, first_first, entry_at-more, name_keeps, cell_by, kept_later, offset_stands, stood_accepted}
pub use Rattle.cell_laws.proofs.CallerLemmas.{first_lawful, each_entry, keeps_id, names_back, sound_after, row_ids_are_taken, accepted_times_stand, wait_made, step_made}
