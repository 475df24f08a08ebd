use Rattle.std.proofs.Common.{subst, sym}
use Rattle.cell_model.specs.Seen.{Waited}
use Rattle.cell_solo.specs.Turns.{sight}
use Rattle.test_rows.specs.Sharing.{Scene}
use Rattle.test_rows.proofs.Passing.{wait_step, merge_waits}
use Rattle.cell_solo.proofs.CallerLemmas.{on_ok}
use Rattle.test_rows.proofs.scripted.ScriptedRows.put_merged.Goals as goal

pub returns-clause-ok : goal.returns-clause-ok
returns-clause-ok c = on_ok c.put_merged.result
    (λ steps. wait_step _ _ _ _ _ (subst (λ (v : Scene). Waited (sight c.args.self.now.shared.solo) (sight v.shared.solo)) (sym c.self.view_is) c.let_others.ensures.waits) steps.stepped)
    c.put_merged.ensures.steps

pub put_merged-requires : goal.put_merged-requires
put_merged-requires c = record { knows = merge_waits (sight c.args.self.now.shared.solo) (sight c.self.inside.shared.solo) c.args.row.now c.args.qual.now c.args.value.now (subst (λ (v : Scene). Waited (sight c.args.self.now.shared.solo) (sight v.shared.solo)) (sym c.self.view_is) c.let_others.ensures.waits) c.requires.knows }
