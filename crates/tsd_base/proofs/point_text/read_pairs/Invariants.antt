use Rattle.std.proofs.Common.{◌≡◌, ◌+◌, length, vec_len}
use Rattle.tsd_base.specs.Points.{pairs_of}
use Rattle.tsd_base.specs.Words.{words_of}
use Rattle.tsd_base.proofs.PointLemmas.{with_front}
use Rattle.tsd_base.proofs.point_text.read_pairs.Given as goal

abbrev pub invariant-loop-word : goal.invariant-loop-word
invariant-loop-word l =
    with_front l.pairs.items (pairs_of (vec_len l.pairs + 1) (words_of l.rest)) ≡ pairs_of 1 (words_of l.text)

abbrev pub decreases-loop-word : goal.decreases-loop-word
decreases-loop-word l = length l.rest
