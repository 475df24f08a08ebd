-- What is cited of the proofs of the crates below.
pub use Rattle.cell_laws.proofs.CallerLemmas.{base_widths, claim_differs, known_is_allowed, point_differs}
pub use Rattle.cell_model.proofs.CallerLemmas.{bump_full, bump_stamped, bump_there, claim_held, claim_stamped, claim_there, put_stamped, put_there}
pub use Rattle.cell_laws.proofs.PartLemmas.{looks_in_one, parts_tell_store, replayed-snoc}
pub use Rattle.list_lemmas.proofs.BoolTests.{nat_eq_is, nat_eq-refl}
pub use Rattle.list_lemmas.proofs.ListMembers.{here, there, split, not_in, map_in, in_map}
pub use Rattle.step_count.proofs.CallerLemmas.{numbers_extended, picked_has, one_or_none, region_after, store_told}
