use Rattle.std.proofs.Common.{◌≡◌, sym, subst, rules, true, ◌∙◌, ap}
use Rattle.cell_model.specs.Sound.{IsBase}
use Rattle.cell_model.specs.Store.{Store, no_cells}
use Rattle.cell_solo.specs.Turns.{opened, whole_seen}
use Rattle.cell_laws.proofs.CallerLemmas.{empty_base}
use Rattle.lone_store.proofs.run_store.alone.Goals as goal

pub make-requires-clause-base : goal.make-requires-clause-base
make-requires-clause-base c =
    let none : c.in_ok-body.body.content ≡ no_cells c.args.widths = search rules in
    subst IsBase (sym none) (empty_base c.args.widths)

pub returns : goal.returns
returns c =
    let none : c.in_ok-body.body.content ≡ no_cells c.args.widths = search rules in
    record { seen = c.in_ok-rows.ensures.seen ∙ ap (λ (s : Store). whole_seen (opened s 1) 1 true) none; possible = c.in_ok-rows.ensures.possible }
