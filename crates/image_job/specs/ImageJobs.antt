-- What the jobs on images tell.
use Rattle.std.specs.Prelude.{◌≡◌, ◌⊎◌, ℕ, ◌^◌, ◌<◌, Bool, true, false, List, [], ◌∷◌, length, Option, None, Some, Result, Ok, Err}
use Rattle.std.specs.Io.KnownBytes.{Appends, Consumes, IsAtEnd}
use Rattle.cell_model.specs.declared.row.Listing.{Listing}
use Rattle.cell_listing.specs.Grammar.{cells_text}
use Rattle.cell_listing.specs.ListedLines.{ListingRead, counted_in}
use Rattle.listing_check.specs.Faults.{AreFaults}
use Rattle.listing_check.specs.ReportText.{fault_line}
use Rattle.listing_check.specs.Reports.{read_of}
use Rattle.listing_check.specs.declared.report.Flaw.{Flaw}
use Rattle.cell_image.specs.Images.{first_large, image, width_bytes}
use Rattle.cell_image.specs.ImageReads.{image_read}
use Rattle.cell_image.specs.ImageTakes.{Refuses}
use Rattle.cell_image.specs.declared.image_fault.ImageFault.{ImageFault}
use Rattle.cell_image.specs.declared.image_fault.ImageFault.TheVariants as fault
use Rattle.listing_job.specs.ListingJobs.{Gives, Told, Unread}
use Rattle.listing_job.specs.Shows.{told_of}
use Rattle.listing_job.specs.declared.listing_end.ListingEnd.{ListingEnd}
use Rattle.listing_job.specs.declared.listing_end.ListingEnd.TheVariants.{OutOfMemory}
use Rattle.listing_job.specs.declared.shown.Shown.{Shown}
use Rattle.image_job.specs.ImageTexts.{flaw_told, image_fault_text, large_told, refused_by}

-- ---- `pack`

abbrev pub packed_by : Option ℕ → Listing → Told
packed_by (Some cell) l = large_told cell
packed_by None l = record { refused = false; text = image l }

-- the image, or which cell is too large
abbrev pub IsPacked : Listing → Told → Type 0
IsPacked l told = told ≡ packed_by (first_large l.lines) l

-- the first fault's line, or where there is none the image of the cells
abbrev pub Packed : ListingRead → Told → Type 0
Packed read told =
    ((fault : ℕ × Flaw) × (faults : List (ℕ × Flaw)) × AreFaults read (fault ∷ faults) × (told ≡ record { refused = true; text = fault_line fault }))
    ⊎ (AreFaults read [] × IsPacked (record { widths = read.widths; lines = counted_in read.lines }) told)

-- ---- `unpack`

-- the line of the first fault of the listing of an image, or where there is none its lines
abbrev pub Unpacked : Listing → Told → Type 0
Unpacked l told =
    ((fault : ℕ × Flaw) × (faults : List (ℕ × Flaw)) × AreFaults (read_of l) (fault ∷ faults) × (told ≡ flaw_told fault))
    ⊎ (AreFaults (read_of l) [] × (told ≡ record { refused = false; text = cells_text l.lines }))

abbrev pub is_want : ImageFault → Bool
is_want (fault.CutShort at) = false
is_want fault.BadMark = false
is_want fault.BadWidths = false
is_want (fault.BadTable at) = false
is_want (fault.EmptyPart at) = false
is_want (fault.NotRising at) = false
is_want (fault.Trailing at) = false
is_want fault.OutOfMemory = true

-- the line of the fault was given; of want of memory nothing is told
abbrev pub GivesRefusal : ImageFault → (held held' : Option (List ℕ)) → ListingEnd → Type 0
GivesRefusal fault.OutOfMemory held held' end = (end ≡ OutOfMemory) × (held' ≡ held)
GivesRefusal why held held' end = Gives (λ told. told ≡ refused_by (image_fault_text why)) held held' end

-- these bytes were taken: they weren't read as far as was needed, or they are no image, or what they list was told of
pub record OverImage (Tells : Listing → Told → Type 0) (taken taken' left left' held held' : Option (List ℕ)) (end : ListingEnd) : Type 0 where
  pub bytes : List ℕ
  pub takes : Appends taken taken' bytes
  pub leaves : Consumes left left' bytes
  pub ends : Unread bytes held held' end
      ⊎ (((why : ImageFault) × Refuses image_read left' bytes why × GivesRefusal why held held' end)
      ⊎ (IsAtEnd left' × (length bytes < 2 ^ 40) × ((l : Listing) × (image_read bytes ≡ Ok (width_bytes l.widths, l.lines)) × Gives (Tells l) held held' end)))

-- ---- a listing that is loaded

-- the listing has no fault and nothing was given, or its first fault's line was; or there was no memory
abbrev pub Checks : Listing → (held held' : Option (List ℕ)) → Result Listing ListingEnd → Type 0
Checks l held held' (Ok checked) = (checked ≡ l) × AreFaults (read_of l) [] × (held' ≡ held)
Checks l held held' (Err end) =
    ((end ≡ OutOfMemory) × (held' ≡ held))
    ⊎ ((fault : ℕ × Flaw) × (faults : List (ℕ × Flaw)) × AreFaults (read_of l) (fault ∷ faults) × Gives (λ told. told ≡ flaw_told fault) held held' end)

-- the bytes are the image of a listing without a fault, and nothing was given
abbrev pub LoadsListing : Option (List ℕ) → List ℕ → (held held' : Option (List ℕ)) → Listing → Type 0
LoadsListing left' bytes held held' l =
    IsAtEnd left' × (length bytes < 2 ^ 40) × (image_read bytes ≡ Ok (width_bytes l.widths, l.lines)) × AreFaults (read_of l) [] × (held' ≡ held)

-- the bytes weren't read as far as was needed, or they are no image, or of a listing with a fault: then the line of the fault was given
abbrev pub LoadsNone : Option (List ℕ) → List ℕ → (held held' : Option (List ℕ)) → ListingEnd → Type 0
LoadsNone left' bytes held held' end =
    Unread bytes held held' end
    ⊎ (((why : ImageFault) × Refuses image_read left' bytes why × GivesRefusal why held held' end)
    ⊎ (IsAtEnd left' × (length bytes < 2 ^ 40) × ((l : Listing) × (image_read bytes ≡ Ok (width_bytes l.widths, l.lines))
    × ((fault : ℕ × Flaw) × (faults : List (ℕ × Flaw)) × AreFaults (read_of l) (fault ∷ faults) × Gives (λ told. told ≡ flaw_told fault) held held' end))))

abbrev pub Loads : Option (List ℕ) → List ℕ → (held held' : Option (List ℕ)) → Result Listing ListingEnd → Type 0
Loads left' bytes held held' (Ok l) = LoadsListing left' bytes held held' l
Loads left' bytes held held' (Err end) = LoadsNone left' bytes held held' end

-- these bytes were taken, and a listing was loaded of them, or none
pub record LoadsImage (taken taken' left left' held held' : Option (List ℕ)) (result : Result Listing ListingEnd) : Type 0 where
  pub bytes : List ℕ
  pub takes : Appends taken taken' bytes
  pub leaves : Consumes left left' bytes
  pub loads : Loads left' bytes held held' result

-- ---- how it is shown

-- the line of the first fault of a listing in memory, if it has one
abbrev pub ShowsFlaw : ListingRead → Option Shown → Type 0
ShowsFlaw read (Some shown) = (fault : ℕ × Flaw) × (faults : List (ℕ × Flaw)) × AreFaults read (fault ∷ faults) × (told_of shown ≡ flaw_told fault)
ShowsFlaw read None = AreFaults read []
