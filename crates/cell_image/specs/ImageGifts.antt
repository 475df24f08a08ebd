-- What giving an image to a sink comes to.
use Rattle.std.specs.Prelude.{◌≡◌, ℕ, List, ◌++◌, Option, None, Some, Result, Ok, Err}
use Rattle.std.specs.Io.KnownBytes.{Appends}
use Rattle.cell_model.specs.declared.row.ListLine.{ListLine}
use Rattle.cell_model.specs.declared.row.Listing.{Listing}
use Rattle.listing_print.specs.GivenTexts.{GaveFront}
use Rattle.listing_print.specs.declared.cell_giver.GiveFault.{GiveFault}
use Rattle.listing_print.specs.declared.cell_giver.GiveFault.TheVariants as give
use Rattle.cell_image.specs.Images.{cells_image, first_large, image}
use Rattle.cell_image.specs.declared.image_giver.GiveImageFault.{GiveImageFault}
use Rattle.cell_image.specs.declared.image_giver.GiveImageFault.TheVariants.{TooLarge, Failed, OutOfMemory}

abbrev pub told_of : GiveFault → GiveImageFault
told_of give.Failed = Failed
told_of give.OutOfMemory = OutOfMemory

-- The image was given, where each cell fits; else nothing, and the number of the first that doesn't is told. Where the sink fails or
-- memory runs out a front was given.
abbrev pub GivesImage : Listing → (held held' : Option (List ℕ)) → Result (Unit {0}) GiveImageFault → Type 0
GivesImage l held held' (Ok _) = (first_large l.lines ≡ None) × Appends held held' (image l)
GivesImage l held held' (Err (TooLarge cell)) = (first_large l.lines ≡ Some cell) × (held' ≡ held)
GivesImage l held held' (Err Failed) = (first_large l.lines ≡ None) × GaveFront held held' (image l)
GivesImage l held held' (Err OutOfMemory) = (first_large l.lines ≡ None) × GaveFront held held' (image l)

-- a part was given, some waits, and with the cells that are left it is all
pub record Giving (held held' : Option (List ℕ)) (waits : List ℕ) (left : List ListLine) (all : List ℕ) : Type 0 where
  pub given : List ℕ
  pub gives : Appends held held' given
  pub all_is : all ≡ given ++ (waits ++ cells_image left)
