-- What is shown, as what is told.
use Rattle.std.specs.Prelude.{◌≡◌, ℕ, true, List, [], ◌∷◌, Option, None, Some}
use Rattle.cell_listing.specs.ListedLines.{ListingRead}
use Rattle.listing_check.specs.Faults.{AreFaults}
use Rattle.listing_check.specs.ReportText.{fault_line}
use Rattle.listing_check.specs.declared.report.Flaw.{Flaw}
use Rattle.listing_job.specs.declared.shown.Shown.{Shown}
use Rattle.listing_job.specs.ListingJobs.{Told}

abbrev pub told_of : Shown → Told
told_of shown = record { refused = shown.refused; text = shown.text.items }

-- the line of the first fault of a listing, if it has one
abbrev pub ShowsFault : ListingRead → Option Shown → Type 0
ShowsFault read (Some shown) = (fault : ℕ × Flaw) × (faults : List (ℕ × Flaw)) × AreFaults read (fault ∷ faults) × (told_of shown ≡ record { refused = true; text = fault_line fault })
ShowsFault read None = AreFaults read []
