use Rattle.std.proofs.Common.{arith}
use Rattle.cell_image.proofs.OneListing.{tells_image}
use Rattle.cell_image.proofs.image_reader.read_image.Goals as goal

pub returns-clause-image : goal.returns-clause-image
returns-clause-image c = tells_image c.args.bytes.now c.read_fields.result (λ i. let b = c.type_inv.bytes i in omega (arith, b)) c.read_fields.ensures
