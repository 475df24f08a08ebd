-- What a caller's proof cites of lists of dots.
-- dots that rise, behind others that rise and that they are above
pub use Rattle.tsd_base.proofs.DotsLemmas.{append_rising}
-- the words of a text that is put together word by word
pub use Rattle.tsd_base.proofs.Parts.{words_of-append, words_of-word}
-- pairs that are sorted one after the other, and the tags that they make
pub use Rattle.tsd_base.proofs.TagLemmas.{IsSorting, sorting_starts, sorting_goes_on, sorting_ends}
