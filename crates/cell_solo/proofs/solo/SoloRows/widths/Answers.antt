use Rattle.std.proofs.Common.{◌∙◌}
use Rattle.cell_solo.proofs.Plays.{seen_as_listed}
use Rattle.cell_solo.proofs.solo.SoloRows.widths.Goals as goal

pub returns : goal.returns
returns g c = rw (← c.self.view_is) (c.widths.ensures ∙ seen_as_listed (record { lines = c.self.inside.base; turns = c.self.inside.turns.list; callers = c.self.inside.callers; caller = c.self.inside.caller; room = c.self.inside.turns.spare }))
