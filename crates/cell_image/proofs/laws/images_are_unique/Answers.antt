use Rattle.cell_image.proofs.OneListing.{one_listing}
use Rattle.cell_image.proofs.laws.images_are_unique.Goals as goal

pub returns : goal.returns
returns c = one_listing
