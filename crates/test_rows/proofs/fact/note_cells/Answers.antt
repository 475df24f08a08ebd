use Rattle.std.proofs.Common.{subst, sym}
use Rattle.std.specs.Prelude.{Vec}
use Rattle.std.specs.Global.{Global}
use Rattle.test_rows.specs.declared.fact.Fact.{Fact}
use Rattle.test_rows.specs.Facts.{AllHold}
use Rattle.test_rows.proofs.fact.note_cells.Goals.{in-Some, in_default}
use Rattle.test_rows.proofs.fact.note_cells.Goals as goal

pub loop-i-preserved : goal.loop-i-preserved
loop-i-preserved c = λ s all shows. elim c.match-value_at.branch [
  | in-Some w ↦ subst (λ (v : Vec Fact Global). AllHold s v.items) (sym w.facts-is)
      (w.note_cell.ensures s (c.loop-i.invariant s all shows) (shows _ _ w.in-Some.ensures))
  | in_default w ↦ subst (λ (v : Vec Fact Global). AllHold s v.items) (sym w.facts-is) (c.loop-i.invariant s all shows)
]
