-- A list that was written over zeros by its first bytes and its last ones.
use Rattle.std.proofs.Common.{◌≡◌, ℕ, ◌+◌, ◌-◌, ◌≤◌, List, ◌++◌, length, take, drop, replicate, sym, ap, ◌∙◌, append_assoc, arith}
use Rattle.std.proofs.lemmas.List.{drop-drop, drop-replicate, length-take, take-append-drop, take-append-le, take-take}
use Rattle.std.proofs.lemmas.Slice.{drop-append-drop}
use borrow.Rule.Slice.PartMut.{put_mid, post_of}

-- what was written first stands before the last bytes, and zeros behind them
pub written_by_ends : (part : ℕ) (xs : List ℕ) → part ≤ length xs → length xs ≤ part + part
    → put_mid (length xs - part) (length xs - (length xs - part)) (take part xs ++ drop part (replicate 30 0)) (drop (length xs - part) xs) ≡ xs ++ replicate (30 - length xs) 0
written_by_ends part xs least most =
    let n : ℕ = length xs in
    let a : ℕ = n - part in
    let zeros : List ℕ = replicate 30 0 in
    let first : List ℕ = take part xs ++ drop part zeros in
    let long : length (take part xs) ≡ part = omega (arith, least, length-take part xs) in
    let front : take a first ≡ take a xs = take-append-le a (take part xs) (drop part zeros) (omega (arith, long, least, most)) ∙ take-take a part xs (omega (arith, least, most)) in
    let place : a + (n - a) ≡ n = omega (arith, least) in
    let behind : post_of a (n - a) first ≡ replicate (30 - n) 0 =
    drop-drop (n - a) a first ∙ ap (λ i. drop i first) place ∙ drop-append-drop part zeros (take part xs) n least long ∙ drop-replicate n 30 0 in
    (λ i. front i ++ (drop a xs ++ behind i)) ∙ sym (append_assoc (take a xs) (drop a xs) (replicate (30 - n) 0)) ∙ ap (λ (l : List ℕ). l ++ replicate (30 - n) 0) (take-append-drop a xs)
