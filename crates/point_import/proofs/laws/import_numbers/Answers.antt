use Rattle.point_import.proofs.Numbering.{import_numbers}
use Rattle.point_import.proofs.laws.import_numbers.Goals as goal

pub returns : goal.returns
returns c = import_numbers
