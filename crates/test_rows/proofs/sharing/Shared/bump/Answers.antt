use Rattle.std.proofs.Common.{arith}
use Rattle.cell_solo.specs.Turns.{sight}
use Rattle.test_rows.proofs.Holding.{bump_shows}
use Rattle.test_rows.proofs.Passing.{sharing_step}
use Rattle.test_rows.proofs.sharing.Shared.bump.Goals as goal

pub invariant_of-self-2 : goal.invariant_of-self-2
invariant_of-self-2 c = let left = c.self.invariant.room in let spare = c.in_ok-bumped.ensures.spare in sharing_step _ _ _ _ _ _ _ _ c.self.invariant c.in_ok-bumped.ensures.steps (omega (arith, left, spare))
    (λ all. c.note_bump.ensures (sight c.bump.new.self) all (bump_shows (sight c.self.inside.solo) (sight c.bump.new.self) _ _ _ c.in_ok-bumped.ensures.steps.stepped c.caller-caller.ensures))
