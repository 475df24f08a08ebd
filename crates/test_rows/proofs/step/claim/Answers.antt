use Rattle.std.proofs.Common.{ℕ, List, refl, subst}
use Rattle.cell_model.specs.KindWidths.{Widths}
use Rattle.cell_model.specs.Lawful.{ClaimBasis}
use Rattle.cell_model.specs.Seen.{Saw}
use Rattle.cell_solo.specs.Turns.{sight}
use Rattle.test_rows.specs.Sharing.IsOneStep.{one}
use Rattle.test_rows.proofs.step.claim.Goals as goal

pub claim-requires : goal.claim-requires
claim-requires c = record {
  knows = subst (λ (x : Widths × ℕ × List ℕ). ClaimBasis x.0 (λ e. (place : ℕ) × Saw (sight c.args.shared.now.solo) place e) x.1 c.args.row.now.table c.args.row.now.bytes x.2 c.args.value.now)
      (λ i. (c.widths-widths.ensures i, c.caller-caller.ensures i, c.list.ensures i)) (c.if-not-may_claim.ensures refl (sight c.args.shared.now.solo) c.facts.ensures.hold);
}

pub returns-in-Ok : goal.returns-in-Ok
returns-in-Ok c = one c.in-Ok.ensures.steps
