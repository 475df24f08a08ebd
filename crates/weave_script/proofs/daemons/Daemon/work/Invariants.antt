use Rattle.cell_solo.specs.Turns.{history_of}
use Rattle.weave_script.proofs.daemons.Daemon.work.Given as goal

abbrev pub ghosts-work_from : goal.ghosts-work_from
ghosts-work_from g a = record { history = history_of a.loom.play; caller = a.loom.play.caller }
