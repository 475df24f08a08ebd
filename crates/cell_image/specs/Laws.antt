-- The laws of images.
use Rattle.std.specs.Prelude.{◌≡◌, ◌↔◌, ℕ, List, Ok}
use Rattle.hex.specs.Hex.{IsBytes}
use Rattle.cell_model.specs.declared.row.Listing.{Listing}
use Rattle.cell_image.specs.Images.{IsImage, width_bytes}
use Rattle.cell_image.specs.ImageReads.{image_read}

-- bytes tell a listing exactly where they are its image
abbrev pub ImagesReadBack : Type 0
ImagesReadBack = (l : Listing) (bytes : List ℕ) → IsBytes bytes → (image_read bytes ≡ Ok (width_bytes l.widths, l.lines)) ↔ IsImage l bytes

-- bytes are the image of one listing at most
abbrev pub ImagesAreUnique : Type 0
ImagesAreUnique = (l m : Listing) (bytes : List ℕ) → IsImage l bytes → IsImage m bytes → l ≡ m
