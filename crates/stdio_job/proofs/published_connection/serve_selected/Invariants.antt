use Rattle.cell_solo.specs.Turns.{sight}
use Rattle.stdio_job.proofs.published_connection.serve_selected.Given as goal

abbrev pub ghosts-serve_feeding : goal.ghosts-serve_feeding
ghosts-serve_feeding g a = record { prefix = a.selects.prefix; start = sight a.rows.rows }
