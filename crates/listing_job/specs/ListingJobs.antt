-- What the jobs on listings tell.
use Rattle.std.specs.Prelude.{◌≡◌, ◌⊎◌, ℕ, ◌^◌, ◌<◌, Bool, true, false, not, nat_eq, List, [], ◌∷◌, ◌++◌, length, Option}
use Rattle.std.specs.Io.KnownBytes.{Appends, Consumes, IsAtEnd}
use Rattle.line_stream.specs.declared.reader.InputFault.{InputFault}
use Rattle.line_stream.specs.declared.reader.InputFault.TheVariants as input
use Rattle.row_key.specs.declared.widths.Widths.{Widths}
use Rattle.cell_model.specs.declared.row.ListLine.{ListLine}
use Rattle.cell_model.specs.Listed.{store_of}
use Rattle.cell_model.specs.Store.{Store}
use Rattle.cell_listing.specs.Grammar.{cells_text, listed}
use Rattle.cell_listing.specs.ListedLines.{ListingRead, counted_in}
use Rattle.listing_check.specs.Faults.{AreFaults}
use Rattle.listing_check.specs.ReportText.{fault_line, report_text}
use Rattle.listing_check.specs.Reports.{IsReport}
use Rattle.listing_check.specs.declared.report.Flaw.{Flaw}
use Rattle.listing_check.specs.declared.report.Report.{Report}
use Rattle.listing_fix.specs.Fixes.{Fixes}
use Rattle.listing_dump.specs.Dumps.{AreDumped, PlacedPoint, dump_text}
use Rattle.listing_dump.specs.declared.dump.DumpFault.{DumpFault}
use Rattle.listing_dump.specs.declared.dump.DumpFault.TheVariants as dump
use Rattle.listing_print.specs.declared.cell_giver.GiveFault.{GiveFault}
use Rattle.listing_print.specs.declared.cell_giver.GiveFault.TheVariants as give
use Rattle.listing_job.specs.declared.listing_end.ListingEnd.{ListingEnd}
use Rattle.listing_job.specs.declared.listing_end.ListingEnd.TheVariants.{Done, Refused, ReadFault, WriteFault, OutOfMemory, SessionFull}

-- what is told of a listing: a text, and whether the listing is refused
pub record Told : Type 0 where
  pub refused : Bool
  pub text : List ℕ

-- ---- what each tells

-- a listing with a fault is refused
abbrev pub has_some : List (ℕ × Flaw) → Bool
has_some faults = not (nat_eq (length faults) 0)

-- `fsck`: the report
abbrev pub Checked : ListingRead → Told → Type 0
Checked read told = (report : Report) × IsReport read report × (told ≡ record { refused = has_some report.faults.items; text = report_text report })

-- the store of the cells of a listing
abbrev pub store_read : ListingRead → Store
store_read read = store_of (record { widths = read.widths; lines = counted_in read.lines })

-- `fix`: the cells that mending makes
abbrev pub Fixed : ListingRead → Told → Type 0
Fixed read told = (cells : List ListLine) × Fixes read cells × (told ≡ record { refused = false; text = cells_text cells })

-- `dump`: the first fault's line, or where there is none the points of the store
abbrev pub Dumped : ListingRead → Told → Type 0
Dumped read told =
    ((fault : ℕ × Flaw) × (faults : List (ℕ × Flaw)) × AreFaults read (fault ∷ faults) × (told ≡ record { refused = true; text = fault_line fault }))
    ⊎ (AreFaults read [] × ((points : List PlacedPoint) × AreDumped (store_read read) points × (told ≡ record { refused = false; text = dump_text points })))

-- ---- how a job ends

abbrev pub end_of_input : InputFault → ListingEnd
end_of_input input.Failed = ReadFault
end_of_input input.Full = SessionFull
end_of_input input.OutOfMemory = OutOfMemory

abbrev pub end_of_dump : DumpFault → ListingEnd
end_of_dump dump.Failed = WriteFault
end_of_dump dump.OutOfMemory = OutOfMemory

abbrev pub end_of_give : GiveFault → ListingEnd
end_of_give give.Failed = WriteFault
end_of_give give.OutOfMemory = OutOfMemory

-- of a job whose text was given
abbrev pub told_end : Bool → ListingEnd
told_end true = Refused
told_end false = Done

-- a front of whatever is told was given
pub record GaveFrontOf (Tells : Told → Type 0) (held held' : Option (List ℕ)) : Type 0 where
  pub front : List ℕ
  pub gives : Appends held held' front
  pub is_front : (told : Told) → Tells told → (rest : List ℕ) × (told.text ≡ front ++ rest)

-- Of a listing that was read this is told, and given: all of it, or a front where the sink fails or memory runs out.
abbrev pub Gives : (Told → Type 0) → (held held' : Option (List ℕ)) → ListingEnd → Type 0
Gives Tells held held' Done = (told : Told) × Tells told × (told.refused ≡ false) × Appends held held' told.text
Gives Tells held held' Refused = (told : Told) × Tells told × (told.refused ≡ true) × Appends held held' told.text
Gives Tells held held' WriteFault = GaveFrontOf Tells held held'
Gives Tells held held' OutOfMemory = GaveFrontOf Tells held held'
Gives Tells held held' ReadFault = ⊥
Gives Tells held held' SessionFull = ⊥

-- the input so far wasn't read to its end, and nothing was given
abbrev pub Unread : List ℕ → (held held' : Option (List ℕ)) → ListingEnd → Type 0
Unread bytes held held' ReadFault = (length bytes < 2 ^ 40) × (held' ≡ held)
Unread bytes held held' SessionFull = (length bytes ≡ 2 ^ 40) × (held' ≡ held)
Unread bytes held held' OutOfMemory = held' ≡ held
Unread bytes held held' end = ⊥

-- these bytes were taken, and if their end came what they list was told of
pub record OverListing (Tells : ListingRead → Told → Type 0) (widths : Widths) (taken taken' left left' held held' : Option (List ℕ)) (end : ListingEnd) : Type 0 where
  pub bytes : List ℕ
  pub takes : Appends taken taken' bytes
  pub leaves : Consumes left left' bytes
  pub ends : Unread bytes held held' end
      ⊎ (IsAtEnd left' × (length bytes < 2 ^ 40) × Gives (Tells (record { widths = widths; lines = listed bytes })) held held' end)
