use Rattle.std.proofs.Common.{ℕ, List, subst}
use Rattle.cell_model.specs.IdRows.{reverse_row}
use Rattle.cell_model.specs.Lawful.{claimed}
use Rattle.cell_model.specs.Seen.{Saw}
use Rattle.test_rows.proofs.claim.may_give.Goals as goal

pub returns-in-Ok : goal.returns-in-Ok
returns-in-Ok c = λ yes s all.
    let was = all _ (c.was_claimed.ensures yes) in
    record { who = was.1; reversed = (was.0, subst (λ (id : List ℕ). Saw s was.0 (claimed was.1 (reverse_row id) c.args.qual.now c.args.name.now)) c.in-Ok.ensures.made was.2) }
