use Rattle.std.proofs.Common.{◌≡◌, List, ℕ, ◌+◌, ◌≤◌, length, take, drop, arith, length-drop}
use Rattle.std.proofs.lemmas.List.{length-take}
use Rattle.short_bytes.proofs.Sameness.{twos_tie}
use Rattle.short_bytes.proofs.loads.same_two.Goals as goal

pub returns : goal.returns
returns c =
    let at = c.args.at in
    let one = c.args.one.now in
    let other = c.args.other.now in
    let long : (list : List ℕ) → at + 2 ≤ length list → length (take 2 (drop at list)) ≡ 2 = λ list fits. omega (arith, fits, length-take 2 (drop at list), length-drop at list) in
    twos_tie (take 2 (drop at one)) (take 2 (drop at other)) c.two.result c.two-2.result (long one c.requires.0) (long other c.requires.1) c.two.ensures.bytes c.two-2.ensures.bytes c.two.ensures.value c.two-2.ensures.value
