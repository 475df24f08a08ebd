-- What writing an image comes to.
use Rattle.std.specs.Prelude.{◌≡◌, ℕ, None, Some, Vec, Result, Ok, Err}
use Rattle.std.specs.declared.alloc.Global.{Global}
use Rattle.cell_model.specs.declared.row.Listing.{Listing}
use Rattle.cell_image.specs.Images.{first_large, image}
use Rattle.cell_image.specs.declared.image_fault.WriteImageFault.{WriteImageFault}
use Rattle.cell_image.specs.declared.image_fault.WriteImageFault.TheVariants.{TooLarge, OutOfMemory}

-- the image, where each cell fits; else the number of the first that doesn't
abbrev pub WritesImage : Listing → Result (Vec ℕ Global) WriteImageFault → Type 0
WritesImage l (Ok bytes) = (first_large l.lines ≡ None) × (bytes.items ≡ image l)
WritesImage l (Err (TooLarge cell)) = first_large l.lines ≡ Some cell
WritesImage l (Err OutOfMemory) = Unit {0}
