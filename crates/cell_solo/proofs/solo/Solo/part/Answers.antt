use Rattle.std.specs.Prelude.{nat_eq}
use Rattle.cell_solo.specs.Turns.{history_of}
use Rattle.cell_solo.proofs.Plays.{fits_whole}
use Rattle.cell_solo.proofs.solo.Solo.part.Goals as goal

pub returns-clause-fits : goal.returns-clause-fits
returns-clause-fits g c = fits_whole (history_of c.args.self) c.args.self.caller (nat_eq c.args.self.callers 1)
