use Rattle.std.proofs.Common.{ℕ, List, subst, sym}
use Rattle.row_key.specs.declared.tables.Table.{Table}
use Rattle.cell_model.specs.Lawful.{ClaimBasis}
use Rattle.cell_model.specs.Seen.{Saw}
use Rattle.test_rows.proofs.claim.may_claim.Goals as goal

pub returns-in-Ids : goal.returns-in-Ids
returns-in-Ids c = λ yes s all.
    subst (λ (x : Table × List ℕ). ClaimBasis c.args.widths (λ e. (place : ℕ) × Saw s place e) c.args.caller x.0 x.1 c.args.qual.now c.args.value.now) (λ i. (sym c.in-Ids.is i, c.list-in-Ids.ensures i)) (c.may_give.ensures yes s all)
