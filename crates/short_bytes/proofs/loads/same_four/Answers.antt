use Rattle.std.proofs.Common.{◌≡◌, List, ℕ, ◌+◌, ◌≤◌, length, take, drop, arith, length-drop}
use Rattle.std.proofs.lemmas.List.{length-take}
use Rattle.short_bytes.proofs.Sameness.{fours_tie}
use Rattle.short_bytes.proofs.loads.same_four.Goals as goal

pub returns : goal.returns
returns c =
    let at = c.args.at in
    let one = c.args.one.now in
    let other = c.args.other.now in
    let long : (list : List ℕ) → at + 4 ≤ length list → length (take 4 (drop at list)) ≡ 4 = λ list fits. omega (arith, fits, length-take 4 (drop at list), length-drop at list) in
    fours_tie (take 4 (drop at one)) (take 4 (drop at other)) c.four.result c.four-2.result (long one c.requires.0) (long other c.requires.1) c.four.ensures.bytes c.four-2.ensures.bytes c.four.ensures.value c.four-2.ensures.value
