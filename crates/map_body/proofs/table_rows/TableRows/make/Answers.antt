use Rattle.map_body.proofs.Maps.{no_rows}
use Rattle.map_body.proofs.table_rows.TableRows.make.Goals as goal

pub invariant_of-result : goal.invariant_of-result
invariant_of-result c = no_rows c.make.result c.make.ensures
