use Rattle.std.proofs.Common.{◌≡◌, sym, subst, rules, ◌∙◌, ap}
use Rattle.row_key.proofs.CallerLemmas.{has_three}
use Rattle.cell_model.specs.Sound.{IsBase}
use Rattle.cell_model.specs.Store.{no_cells}
use Rattle.cell_laws.proofs.CallerLemmas.{empty_base}
use Rattle.weave_rows.proofs.Looming.{loom_begins}
use Rattle.weave_rows.proofs.loom.Loom.make.Goals as goal

pub make-requires-clause-base : goal.make-requires-clause-base
make-requires-clause-base c =
    let none : c.in_ok-body.body.content ≡ no_cells c.three.result = search rules in
    subst IsBase (sym none) (empty_base c.three.result)

pub invariant_of-result : goal.invariant_of-result
invariant_of-result c =
    let none : c.in_ok-body.body.content ≡ no_cells c.three.result = search rules in
    let e = c.in_ok-rows.ensures in
    loom_begins _ _ (none ∙ ap no_cells (has_three _ c.three.ensures)) e.history e.seen e.callers e.possible e.room
