use Rattle.std.proofs.Common.{ℕ, List, refl, subst}
use Rattle.cell_model.specs.Lawful.{MergedBasis}
use Rattle.cell_model.specs.Seen.{KnowsCell}
use Rattle.cell_solo.specs.Turns.{sight}
use Rattle.test_rows.specs.Sharing.IsOneStep.{one}
use Rattle.test_rows.proofs.step.merge.Goals as goal

pub put_merged-requires : goal.put_merged-requires
put_merged-requires c = record {
  knows = subst (λ (x : List ℕ × List ℕ). MergedBasis (KnowsCell (sight c.args.shared.now.solo) c.args.row.now) c.args.row.now x.0 x.1) (λ i. (c.list.ensures i, c.list-2.ensures i))
      (c.if-not-may_merge.ensures refl (sight c.args.shared.now.solo) c.facts.ensures.hold);
}

pub returns-in-Ok : goal.returns-in-Ok
returns-in-Ok c = one c.in-Ok.ensures.steps
