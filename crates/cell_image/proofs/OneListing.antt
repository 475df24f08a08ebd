-- Bytes are the image of what they are read as, and of no other listing.
use Rattle.std.proofs.Common.{◌≡◌, ℕ, List, sym, ap, ◌∙◌}
use Rattle.std.specs.Prelude.{Result, Ok, Err, slice_index}
use Rattle.hex.specs.Hex.{IsBytes}
use Rattle.row_key.proofs.CallerLemmas.{one_widths}
use Rattle.cell_model.specs.declared.row.ListLine.{ListLine}
use Rattle.cell_model.specs.declared.row.Listing.{Listing}
use Rattle.cell_image.specs.Images.{IsImage, width_bytes}
use Rattle.cell_image.specs.ImageReads.{ReadsImage, TellsImage, image_read}
use Rattle.cell_image.specs.declared.image_fault.ImageFault.{ImageFault}
use Rattle.cell_image.specs.declared.image_fault.ImageFault.TheVariants.{CutShort, BadMark, BadWidths, BadTable, EmptyPart, NotRising, Trailing, OutOfMemory}
use Rattle.cell_image.proofs.ReadBack.{image_of}
use Rattle.cell_image.proofs.Steps.{same_Ok}
use Rattle.cell_image.proofs.Written.{image_comes}

pub one_listing : (l m : Listing) (bytes : List ℕ) → IsImage l bytes → IsImage m bytes → l ≡ m
one_listing l m bytes is same = λ i. record { widths = widths i; lines = (both i).1 }
  where
    both : ◌≡◌ {A = List ℕ × List ListLine} (width_bytes l.widths, l.lines) (width_bytes m.widths, m.lines)
    both = same_Ok (width_bytes l.widths, l.lines) (width_bytes m.widths, m.lines) (sym (image_comes l bytes is) ∙ image_comes m bytes same)

    numbers : width_bytes l.widths ≡ width_bytes m.widths
    numbers = ap (λ (p : List ℕ × List ListLine). p.0) both

    widths : l.widths ≡ m.widths
    widths = one_widths l.widths m.widths (ap (λ bytes. slice_index bytes 0) numbers) (ap (λ bytes. slice_index bytes 1) numbers) (ap (λ bytes. slice_index bytes 2) numbers)

-- an image is read without a fault
no_fault : (bytes : List ℕ) (fault : ImageFault) → image_read bytes ≡ Err fault → (l : Listing) → IsImage l bytes → ⊥
no_fault bytes fault e l is = let o = image_comes l bytes is in absurd cc

pub tells_image : (bytes : List ℕ) (result : Result Listing ImageFault) → IsBytes bytes → ReadsImage bytes result → TellsImage bytes result
tells_image bytes (Ok l) is e = image_of l bytes is e
tells_image bytes (Err (CutShort at)) is e = no_fault bytes (CutShort at) e
tells_image bytes (Err BadMark) is e = no_fault bytes BadMark e
tells_image bytes (Err BadWidths) is e = no_fault bytes BadWidths e
tells_image bytes (Err (BadTable at)) is e = no_fault bytes (BadTable at) e
tells_image bytes (Err (EmptyPart at)) is e = no_fault bytes (EmptyPart at) e
tells_image bytes (Err (NotRising at)) is e = no_fault bytes (NotRising at) e
tells_image bytes (Err (Trailing at)) is e = no_fault bytes (Trailing at) e
tells_image bytes (Err OutOfMemory) is e = tt
