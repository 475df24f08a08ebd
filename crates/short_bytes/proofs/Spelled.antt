-- Up to eight bytes that a word spells.
use Rattle.std.proofs.Common.{◌≡◌, ◌≤◌, ◌+◌, ◌-◌, ℕ, List, ◌++◌, length, take, drop, replicate, refl, sym, ap, ◌∙◌, append_assoc, arith, subst}
use Rattle.std.proofs.lemmas.List.{append-nil, drop_at, replicate-append-replicate, take_all}
use Rattle.std.proofs.lemmas.Nat.{le_bytes_8}
use Rattle.std.specs.Int.{w64, from_le_bytes}
use Rattle.std.specs.Int.Digits.{AllBelowBase}
use Rattle.short_bytes.specs.Kept.{IsSpelled}
use Rattle.short_bytes.proofs.Sameness.{below_base}

-- eight bytes need no zeros
pub eight_spelled : (bytes : List ℕ) (word : ℕ) → length bytes ≡ 8 → AllBelowBase 256 (take 8 bytes) → word ≡ from_le_bytes w64 (take 8 bytes) → IsSpelled bytes word
eight_spelled bytes word long below is =
    let whole : take 8 bytes ≡ bytes = take_all 8 bytes (omega (arith, long)) in
    let none : 0 ≡ 8 - length bytes = omega (arith, long) in
    let spelled = le_bytes_8 bytes word long (below_base bytes (subst (AllBelowBase 256) whole below)) (is ∙ ap (from_le_bytes w64) whole) in
    (omega (arith, long), spelled ∙ sym (append-nil bytes) ∙ ap (λ n. bytes ++ replicate n 0) none)

-- with more zeros behind them they fill a block
pub spelled_filled : (bytes front : List ℕ) → length bytes ≤ 8 → front ≡ bytes ++ replicate (8 - length bytes) 0
    → drop (length bytes) (front ++ replicate 22 0) ≡ replicate (30 - length bytes) 0
spelled_filled bytes front short is =
    let n : ℕ = length bytes in
    let count : (8 - n) + 22 ≡ 30 - n = omega (arith, short) in
    ap (λ (l : List ℕ). drop n (l ++ replicate 22 0)) is
    ∙ ap (drop n) (append_assoc bytes (replicate (8 - n) 0) (replicate 22 0))
    ∙ drop_at bytes (replicate (8 - n) 0 ++ replicate 22 0) n refl
    ∙ replicate-append-replicate (8 - n) 22 0
    ∙ ap (λ k. replicate k 0) count
