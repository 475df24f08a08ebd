-- What a report says of a listing.
use Rattle.cell_model.specs.declared.row.Listing.{Listing}
use Rattle.cell_listing.specs.ListedLines.{ListingRead, lines_of_cells}
use Rattle.listing_check.specs.Faults.{AreFaults, AreNotes}
use Rattle.listing_check.specs.declared.report.Report.{Report}

-- a listing in memory, as if its lines had been read: each tells a cell
abbrev pub read_of : Listing → ListingRead
read_of l = record { widths = l.widths; lines = lines_of_cells l.lines }

-- the report has the faults and the notes
pub record IsReport (r : ListingRead) (report : Report) : Type 0 where
  pub faults : AreFaults r report.faults.items
  pub notes : AreNotes r report.notes.items
