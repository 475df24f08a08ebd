-- What is told of an image that is refused.
use Rattle.std.specs.Prelude.{ℕ, true, List, ◌++◌, codes, decimal}
use Rattle.cell_image.specs.LargeLines.{large_line}
use Rattle.cell_image.specs.declared.image_fault.ImageFault.{ImageFault}
use Rattle.cell_image.specs.declared.image_fault.ImageFault.TheVariants.{CutShort, BadMark, BadWidths, BadTable, EmptyPart, NotRising, Trailing, OutOfMemory}
use Rattle.listing_check.specs.Faults.{flaw_text}
use Rattle.listing_check.specs.declared.report.Flaw.{Flaw}
use Rattle.listing_job.specs.ListingJobs.{Told}

-- words and a number
abbrev pub placed : List ℕ → ℕ → List ℕ
placed words number = words ++ decimal number

abbrev pub image_fault_text : ImageFault → List ℕ
image_fault_text (CutShort at) = placed (codes "cut short at ") at
image_fault_text BadMark = codes "bad mark"
image_fault_text BadWidths = codes "bad widths"
image_fault_text (BadTable at) = placed (codes "bad table at ") at
image_fault_text (EmptyPart at) = placed (codes "empty part at ") at
image_fault_text (NotRising at) = placed (codes "not rising at ") at
image_fault_text (Trailing at) = placed (codes "trailing bytes at ") at
image_fault_text OutOfMemory = codes "out of memory"

-- a refusal is one line
abbrev pub refused_by : List ℕ → Told
refused_by text = record { refused = true; text = codes "image: " ++ text ++ codes "\n" }

-- a cell, from 1, has a part that is too long
abbrev pub large_told : ℕ → Told
large_told cell = record { refused = true; text = large_line cell }

-- a cell, from 1, has this flaw
abbrev pub flaw_told : ℕ × Flaw → Told
flaw_told fault = refused_by (placed (codes "cell ") fault.0 ++ codes ": " ++ flaw_text fault.1)
