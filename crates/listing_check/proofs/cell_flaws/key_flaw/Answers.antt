use Rattle.std.specs.Prelude.{Ok}
use Rattle.listing_check.proofs.cell_flaws.key_flaw.Goals as goal

pub returns-in-Err : goal.returns-in-Err
returns-in-Err c = λ key is. (let same = c.in-Err.ensures.alone (Ok key) is in absurd cc)
