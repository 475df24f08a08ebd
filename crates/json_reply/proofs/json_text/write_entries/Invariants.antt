use Rattle.std.proofs.Common.{◌≡◌, ℕ, ◌+◌, ◌^◌, ◌<◌, List, ◌++◌, map, length, ℤ}
use Rattle.json_reply.specs.Texts.{dot_text, listed}
use Rattle.json_reply.proofs.json_text.write_entries.Given as goal

-- the dots before the place are written
abbrev pub invariant-loop-index : goal.invariant-loop-index
invariant-loop-index l =
    (l.index + (goal.iterator-loop-index).remaining l.time-iterator < 2 ^ 64)
    × ((done : List (List ℕ × ℤ)) × (l.keyed.entries ≡ done ++ l.time-iterator) × (length done ≡ l.index) × (l.out.items ≡ l.fn.out.items ++ listed (map dot_text done)))
