use Rattle.std.proofs.Common.{◌≡◌, ap, ◌∙◌}
use Rattle.weave_rows.specs.Looms.{Loomed}
use Rattle.weave_rows.proofs.Working.{later_stays}
use Rattle.weave_rows.proofs.daemon_rows.draw_step.Goals as goal

pub returns-in-1-clause-later : goal.returns-in-1-clause-later
returns-in-1-clause-later g c = later_stays _ _ _ (ap (λ (l : Loomed). l.play) (c.draw-goes_on.ensures.same ∙ c.draw.ensures.same))

pub returns-in_default-clause-later : goal.returns-in_default-clause-later
returns-in_default-clause-later g c = later_stays _ _ _ (ap (λ (l : Loomed). l.play) c.draw.ensures.same)
