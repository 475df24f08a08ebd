use Rattle.cell_solo.proofs.Sights.{each_sight_extends as each_extends}
use Rattle.cell_solo.proofs.laws.each_sight_extends.Goals as goal

pub returns : goal.returns
returns c = each_extends
