-- What is given of a store into which points were imported.
use Rattle.std.specs.Prelude.{◌≡◌, ◌⊎◌, ℕ, Bool, List, ◌++◌, Option}
use Rattle.std.specs.Io.KnownBytes.{Appends}
use Rattle.tsd_base.specs.Points.{DataPoint}
use Rattle.cell_model.specs.declared.answers.RowsFault.{RowsFault}
use Rattle.cell_model.specs.declared.answers.RowsFault.TheVariants as rows
use Rattle.cell_model.specs.History.{store_after}
use Rattle.cell_model.specs.KindWidths.{Widths}
use Rattle.cell_model.specs.Seen.{Seen}
use Rattle.cell_model.specs.Store.{Store}
use Rattle.cell_model.specs.Counts.{lines_of}
use Rattle.cell_listing.specs.Grammar.{cells_text}
use Rattle.point_lines.specs.LoneHistories.{Holds}
use Rattle.import_job.specs.declared.import_end.ImportEnd.{ImportEnd}
use Rattle.import_job.specs.declared.import_end.ImportEnd.TheVariants.{Done, Refused, ReadFault, WriteFault, OutOfMemory, Stopped, SessionFull}
use Rattle.import_job.specs.ImportAnswers.{IsListing}
use Rattle.import_job.specs.ImportedCells.{IsFilled}

-- in each lawful history that fits, these points were imported into the store
abbrev pub HasPoints : Widths → List DataPoint → Seen → Type 0
HasPoints w points s = Holds s (λ h. IsFilled w points (store_after h))

-- a front of a text of which this is true was given
pub record GaveFrontOf (P : List ℕ → Type 0) (held held' : Option (List ℕ)) : Type 0 where
  pub front : List ℕ
  pub gives : Appends held held' front
  pub rest : List ℕ
  pub is : P (front ++ rest)

-- a text of which this is true was given, or a front of it, or nothing
abbrev pub GivesText : (List ℕ → Type 0) → (held held' : Option (List ℕ)) → ImportEnd → Type 0
GivesText P held held' Done = (text : List ℕ) × P text × Appends held held' text
GivesText P held held' Refused = ⊥
GivesText P held held' WriteFault = GaveFrontOf P held held'
GivesText P held held' OutOfMemory = (held' ≡ held) ⊎ GaveFrontOf P held held'
GivesText P held held' Stopped = held' ≡ held
GivesText P held held' ReadFault = ⊥
GivesText P held held' SessionFull = ⊥

-- the listing of the points that were imported into the store was given so
abbrev pub GivesListing : Bool → Seen → (held held' : Option (List ℕ)) → ImportEnd → Type 0
GivesListing compact s held held' end = (w : Widths) (points : List DataPoint) → HasPoints w points s → GivesText (IsListing w compact points) held held' end

-- the lines of all cells of the store were given, or a front of them
abbrev pub GivesCells : Store → (held held' : Option (List ℕ)) → ImportEnd → Type 0
GivesCells s held held' end = GivesText (λ text. text ≡ cells_text (lines_of s)) held held' end

-- of a step that failed how the import ends
abbrev pub end_of_rows : RowsFault → ImportEnd
end_of_rows rows.OutOfMemory = OutOfMemory
end_of_rows rows.Stopped = Stopped
