use Rattle.std.proofs.Common.{[], ◌∷◌, ◌++◌, refl, ap, ◌∙◌, arith}
use Rattle.metric_scan.proofs.Jumps.{hour_behind}
use Rattle.metric_scan.proofs.key_jump.next_hour.Goals as goal

pub returns : goal.returns
returns c =
    let added = c.in_ok-base.ensures in
    let fits = added.0 in
    let is = added.1 in
    hour_behind c.args.widths c.args.key.now _ c.requires refl is (omega (arith, fits, is)) (c.push.ensures.items ∙ ap (λ l. l ++ (1, 1) ∷ []) c.new-pairs.ensures)
