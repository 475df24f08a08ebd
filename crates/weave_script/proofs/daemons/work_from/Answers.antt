use Rattle.weave_script.proofs.Turning.{later_same}
use Rattle.weave_script.proofs.daemons.work_from.Goals as goal

pub returns-in-Err-clause-later : goal.returns-in-Err-clause-later
returns-in-Err-clause-later g c = later_same g.J.Beginning.caller g.J.Beginning.history c.args.loom c.draw_operation.new.loom c.requires.history c.draw_operation.ensures
