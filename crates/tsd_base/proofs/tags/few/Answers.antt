use Rattle.std.proofs.Common.{sym, ap, ◌∙◌, length, arith}
use Rattle.std.proofs.lemmas.Result.{err_from_is_err_and}
use Rattle.tsd_base.proofs.TagLemmas.{sorting_starts, sorting_goes_on, sorting_fails, sorting_rises, sorting_done, sorting_ends, sorting_shortens, IsTags-sorting}
use Rattle.tsd_base.proofs.tags.few.Goals as goal

pub loop-key-init : goal.loop-key-init
loop-key-init c =
    let given = c.into_iter-key-iterator.ensures.into_iter_gives in
    record { sorting = rw (given.0, c.in_ok-sorted.ensures.items) (sorting_starts _); len = given.1 ∙ c.args.pairs.ok.0 ∙ ap length (sym given.0) }

pub add-requires : goal.add-requires
add-requires c = sorting_rises _ _ _ _ c.loop-key.invariant.sorting

pub loop-key-preserved : goal.loop-key-preserved
loop-key-preserved c =
    let steps = c.in-Some.ensures.steps in
    let sorting = rw steps.0 at c.loop-key.invariant.sorting in
    record { sorting = sorting_goes_on _ _ _ _ _ _ sorting c.in_ok-add.ensures; len = omega (arith, steps.1, ap length steps.0, c.loop-key.invariant.len) }

pub returns-in_err-add-clause-gives : goal.returns-in_err-add-clause-gives
returns-in_err-add-clause-gives c =
    let sorting = rw c.in-Some.ensures.steps.0 at c.loop-key.invariant.sorting in
    let p = err_from_is_err_and c.from_residual-in_err-add.result c.from_residual-in_err-add.ensures.1 in
    rw (p.1, p.2) (sorting_fails _ _ _ _ _ _ sorting c.in_err-add.ensures)

pub invariant_of-result : goal.invariant_of-result
invariant_of-result c =
    let sorting = sorting_done _ _ _ _ _ c.loop-key.invariant.sorting c.loop-key.invariant.len c.in-None.ensures.steps.0 in
    IsTags-sorting _ _ _ sorting c.requires.some (omega (arith, sorting_shortens _ _ _ sorting, c.requires.most))

pub returns-clause-gives : goal.returns-clause-gives
returns-clause-gives c =
    let sorting = sorting_done _ _ _ _ _ c.loop-key.invariant.sorting c.loop-key.invariant.len c.in-None.ensures.steps.0 in
    sorting_ends _ _ _ sorting c.requires.some (omega (arith, sorting_shortens _ _ _ sorting, c.requires.most))

pub returns-clause-tagged : goal.returns-clause-tagged
returns-clause-tagged c =
    let sorting = sorting_done _ _ _ _ _ c.loop-key.invariant.sorting c.loop-key.invariant.len c.in-None.ensures.steps.0 in
    IsTags-sorting _ _ _ sorting c.requires.some (omega (arith, sorting_shortens _ _ _ sorting, c.requires.most))
