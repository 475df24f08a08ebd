use Rattle.std.proofs.Common.{◌≡◌, ◌<◌, ◌≤◌, ◌∙◌, pos, get_or, ap, subst, sym, ⊎_elim, FitsSigned, w64, rules, arith}
use Rattle.std.proofs.lemmas.Bool.{cases_lt}
use Rattle.std.proofs.lemmas.List.{get_or_default}
use Rattle.downsample.specs.Downsampling.{Begins}
use Rattle.downsample.proofs.Owning.{fits_from}
use Rattle.downsample.proofs.own_buckets.each_begins.Goals as goal

pub loop-dot-preserved : goal.loop-dot-preserved
loop-dot-preserved c =
    let fit : FitsSigned w64 (get_or c.args.list.now c.loop-dot.dot-index (0, pos 0)).1 = search rules in
    let begins : Begins c.args.interval (get_or c.args.list.now c.loop-dot.dot-index (0, pos 0)) = (c.if-not-begins.ensures.0, fits_from _ fit) in
    record {
      begin = λ k d low high. ⊎_elim
          (λ (less : k < c.loop-dot.dot-index). c.loop-dot.invariant.begin k d low less)
          (λ (not : c.loop-dot.dot-index ≤ k).
          let here : k ≡ c.loop-dot.dot-index = omega (arith, not, high) in
          subst (Begins c.args.interval) (get_or_default c.args.list.now c.loop-dot.dot-index (0, pos 0) d c.loop-dot-test.true ∙ ap (λ n. get_or c.args.list.now n d) (sym here)) begins)
          (cases_lt k c.loop-dot.dot-index);
      within = omega (arith, c.loop-dot-test.true);
    }
