use Rattle.cell_image.proofs.ReadBack.{image_of}
use Rattle.cell_image.proofs.Written.{image_comes}
use Rattle.cell_image.proofs.laws.images_read_back.Goals as goal

pub returns : goal.returns
returns c = λ l bytes is. (image_of l bytes is, image_comes l bytes)
