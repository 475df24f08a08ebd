use Rattle.std.proofs.Common.{◌≡◌, ℕ, List, ◌++◌, ℤ}
use Rattle.std.specs.Slice.Iter.{iter_rest}
use Rattle.std.specs.Iterator.Adapters.{rev_source}
use Rattle.json_reply.specs.Texts.{keyed}
use Rattle.json_reply.proofs.time_text.keyed.Given as goal

-- the dots behind the place are in the map
abbrev pub invariant-loop-time : goal.invariant-loop-time
invariant-loop-time l = (behind : List (ℕ × ℤ)) × (l.dots ≡ iter_rest (rev_source l.time-iterator) ++ behind) × (l.keyed.entries ≡ keyed l.ms behind)
