use Rattle.std.proofs.Common.{List, sym, subst}
use Rattle.cell_solo.specs.Turns.{sight}
use Rattle.test_rows.specs.declared.fact.Fact.{Fact}
use Rattle.test_rows.specs.Facts.{AllHold}
use Rattle.test_rows.specs.Sharing.{Sharing}
use Rattle.test_rows.proofs.sharing.Shared.facts.Goals as goal

pub returns-clause-hold : goal.returns-clause-hold
returns-clause-hold c = subst (λ (fs : List Fact). AllHold (sight c.args.self.now.solo) fs) (sym c.as_slice.ensures.value) (subst (λ (v : Sharing). AllHold (sight v.solo) c.self.inside.facts.items) c.self.view_is c.self.invariant.hold)
