use Rattle.std.proofs.Common.{◌≡◌, List, ℕ, ◌+◌, ◌≤◌, length, take, drop, arith, length-drop}
use Rattle.std.proofs.lemmas.List.{length-take}
use Rattle.short_bytes.proofs.Sameness.{eights_tie}
use Rattle.short_bytes.proofs.loads.same_eight.Goals as goal

pub returns : goal.returns
returns c =
    let at = c.args.at in
    let one = c.args.one.now in
    let other = c.args.other.now in
    let long : (list : List ℕ) → at + 8 ≤ length list → length (take 8 (drop at list)) ≡ 8 = λ list fits. omega (arith, fits, length-take 8 (drop at list), length-drop at list) in
    eights_tie (take 8 (drop at one)) (take 8 (drop at other)) c.eight.result c.eight-2.result (long one c.requires.0) (long other c.requires.1) c.eight.ensures.bytes c.eight-2.ensures.bytes c.eight.ensures.value c.eight-2.ensures.value
