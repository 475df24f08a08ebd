-- Numbers of five regions that follow one another.
use Rattle.std.proofs.Common.{◌≡◌, ◌≢◌, ℕ, ◌+◌, ◌<◌, ◌≤◌, Bool, true, subst, sym, arith}
use Rattle.atomic_table.specs.Seated.{TableId}
use Rattle.cell_model.specs.declared.events.Step.{Step}
use Rattle.step_count.specs.declared.view.Named.{Named}
use Rattle.step_count.specs.declared.steps.Pass.{Pass}
use Rattle.region_locks.specs.SiteStarts.{FollowOn}
use Rattle.region_locks.specs.StepEntries.{MayRun}

-- the one that is left
pub fifth_of : (a b c d e region : ℕ) → FollowOn a b c d e → a ≤ region → region < a + 5 → region ≢ a → region ≢ b → region ≢ c → region ≢ d → region ≡ e
fifth_of a b c d e region order least most na nb nc nd =
    let b_is = order.0 in let c_is = order.1 in let d_is = order.2 in let e_is = order.3 in omega (arith, b_is, c_is, d_is, e_is, least, most, na, nb, nc, nd)

-- what may run on the region of a number may run on that number
pub may_at : (counter : TableId) (name : Named) (region number : ℕ) (pass : Pass) (step : Step) → region ≡ number → MayRun counter name region pass step → MayRun counter name number pass step
may_at counter name region number pass step is may = subst (λ n. MayRun counter name n pass step) is may

-- the gate was called for the region's number
pub let_in_at : {G : Type 0} (lets_in : G → ℕ → Bool) (gate : G) (region number : ℕ) → region ≡ number → lets_in gate number ≡ true → lets_in gate region ≡ true
let_in_at lets_in gate region number is called = subst (λ n. lets_in gate n ≡ true) (sym is) called
