use Rattle.std.proofs.Common.{◌≡◌, true, List, subst, rules}
use Rattle.std.proofs.lemmas.Result.{err_from_is_err_and}
use Rattle.qual_codec.specs.declared.cells.Dot.{Dot}
use Rattle.qual_codec.specs.MergeSteps.{AreSorted}
use Rattle.qual_codec.proofs.Ranges.{keeps_within, conflicts_within}
use Rattle.qual_codec.proofs.RisingDots.{AreRising, keeps_cut}
use Rattle.qual_codec.proofs.merge.merge_dots.Goals as goal

pub returns-in_err-keep_best-clause-conflict : goal.returns-in_err-keep_best-clause-conflict
returns-in_err-keep_best-clause-conflict c =
    let p = err_from_is_err_and c.from_residual-in_err-keep_best.result c.from_residual-in_err-keep_best.ensures.1 in
    rw (p.1, p.2) (conflicts_within c.args.first c.args.last c.args.dots.items _ c.in_err-keep_best.field-0.0 (subst (λ (l : List Dot). AreSorted l c.sort.new.dots.items) c.cut.ensures c.in_ok-sort.ensures.dots) c.in_err-keep_best.ensures.conflict)

pub returns-clause-kept : goal.returns-clause-kept
returns-clause-kept c = keeps_within c.args.first c.args.last c.args.dots.items _ _ (subst (λ (l : List Dot). AreSorted l c.sort.new.dots.items) c.cut.ensures c.in_ok-sort.ensures.dots) c.in_ok-keep_best.ensures.kept

pub returns-then-are_rising-clause-kept : goal.returns-then-are_rising-clause-kept
returns-then-are_rising-clause-kept c =
    let rises : c.are_rising.result ≡ true = search rules in
    keeps_cut c.args.dots.items c.cut.new.dots.items c.args.first c.args.last c.cut.ensures (subst AreRising c.as_slice.ensures.value (c.are_rising.ensures rises))
