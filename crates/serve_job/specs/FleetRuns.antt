-- What a fleet's job does: what it serves, and what it prints.
use Rattle.std.specs.Prelude.{◌≡◌, ◌≢◌, ◌≤◌, ◌⊎◌, ℕ, Bool, true, false, ◌&&◌, length, List, [], ◌++◌, codes, decimal, flat_map, Option, None, Some, is_some}
use Rattle.std.specs.List.{list_any}
use Rattle.std.specs.Io.KnownBytes.{Appends}
use Rattle.tsd_io.specs.Causes.{Rose}
use Rattle.link_acceptor.specs.Accepting.{IsNoneLeft}
use Rattle.cell_model.specs.declared.answers.Tally.{Tally}
use Rattle.cell_model.specs.declared.row.Listing.{Listing}
use Rattle.cell_model.specs.Store.{Store}
use Rattle.cell_model.specs.Counts.{lines_of, listing_of}
use Rattle.cell_image.specs.Images.{first_large, image}
use Rattle.cell_image.specs.LargeLines.{large_line}
use Rattle.serve_job.specs.declared.last_lines.LastLines.{LastLines}
use Rattle.tsd_daemon.specs.declared.served.Served.{Served}
use Rattle.tsd_fleet.specs.declared.fleet_end.FleetEnd.{FleetEnd}
use Rattle.tsd_fleet.specs.declared.fleet_end.FleetEnd.TheVariants as ended
use Rattle.tsd_fleet.specs.Devices.{FleetDevices, NoneFalls, Terms}
use Rattle.tsd_fleet.specs.FleetServes.{BindsAsked, CountsLinks, FleetServes, IsFirstFront, is_die, listening_line}

-- ---- what is printed

-- how many connections were accepted, the ids given of each kind, and how many rows and cells of points there are
abbrev pub summary_lines : ℕ → Tally → List ℕ
summary_lines links tally =
    codes "links " ++ decimal links ++ codes "\nids" ++ flat_map (λ (n : ℕ). codes " " ++ decimal n) tally.ids ++ codes "\nrows " ++ decimal tally.point_rows ++ codes "\ncells " ++ decimal tally.point_cells ++ codes "\n"

-- how many bytes an image has
abbrev pub size_line : ℕ → List ℕ
size_line size = codes "image " ++ decimal size ++ codes "\n"

-- a store to be saved: its image behind the number of its bytes, or the first cell that is too large for an image
abbrev pub image_text : Option ℕ → Listing → List ℕ
image_text None l = size_line (length (image l)) ++ image l
image_text (Some cell) l = large_line cell

abbrev pub saved_text : Bool → Store → List ℕ
saved_text false store = []
saved_text true store = image_text (first_large (lines_of store)) (listing_of store)

-- the store is to be saved, and a cell is too large
abbrev pub is_too_large : Bool → Store → Bool
is_too_large save store = save && is_some (first_large (lines_of store))

-- all that is printed behind the line of the port
abbrev pub last_lines : ℕ → Tally → Bool → Store → List ℕ
last_lines links tally save store = summary_lines links tally ++ saved_text save store

-- a front of the line of this port and these last lines, where a port was bound
abbrev pub IsFleetFront : List ℕ → ℕ → Option ℕ → List ℕ → Type 0
IsFleetFront printed asked bound lines = (printed ≡ []) ⊎ ((port : ℕ) × (rest : List ℕ) × BindsAsked asked bound port × (printed ++ rest ≡ listening_line port ++ lines))

-- it ended because no more connections came
abbrev pub has_no_more : FleetEnd → Bool
has_no_more ended.Closed = true
has_no_more ended.Died = true
has_no_more other = false

-- The port that was bound, the one that was asked for or for 0 any, and its line come first. Where no more connections come the last lines are printed, where the halt refused, the first one alone, and in
-- any other case no more than that, unless the output failed. So where memory ran out none of the last lines was printed, also where the store is to be saved.
pub record FleetPrints (asked : ℕ) (lines : List ℕ) (before after : FleetDevices) (result : FleetEnd) : Type 0 where
  pub printed : List ℕ
  pub gives : Appends before.output.held after.output.held printed
  pub front : IsFleetFront printed asked after.doors.counts.port lines
  pub whole : has_no_more result ≡ true → (port : ℕ) × BindsAsked asked after.doors.counts.port port × (printed ≡ listening_line port ++ lines)
  pub first : has_no_more result ≡ false → result ≢ ended.WriteFault → IsFirstFront printed asked after.doors.counts.port
  pub stopped : result ≡ ended.Stopped → (port : ℕ) × BindsAsked asked after.doors.counts.port port × (printed ≡ listening_line port)

-- ---- the job

-- Over the base a fleet served these connections, and printed their number, the numbers of the store that they left, and the store where it is to be saved. It is refused where a cell is too large.
pub record RunsFleet (terms : Terms) (save : Bool) (before after : FleetDevices) (result : FleetEnd) (refused : Bool) : Type 0 where
  pub ends : List Served
  pub links : ℕ
  pub tally : Tally
  pub serves : FleetServes terms before after ends tally
  pub counted : CountsLinks before after result links (length ends)
  pub closed : result ≡ ended.Closed → list_any is_die ends ≡ false
  pub died : result ≡ ended.Died → list_any is_die ends ≡ true
  pub prints : FleetPrints terms.port (last_lines links tally save serves.store) before after result
  pub refused_is : refused ≡ (has_no_more result && is_too_large save serves.store)

-- a fleet's job ended so only for its reason, and where the halt refused it ended so, or for want of memory; no count fell
pub record FleetCauses (before after : FleetDevices) (result : FleetEnd) : Type 0 where
  pub none_left : has_no_more result ≡ true → IsNoneLeft before.doors.waiting after.doors.waiting
  pub stopped : result ≡ ended.Stopped → Rose before.stops after.stops
  pub heeded : result ≢ ended.Stopped → result ≢ ended.OutOfMemory → after.stops ≡ before.stops
  pub door_fault : result ≡ ended.DoorFault → Rose before.doors.faults after.doors.faults
  pub write_fault : result ≡ ended.WriteFault → Rose before.output.faults after.output.faults
  pub later : NoneFalls before after

-- ---- the last lines

-- these two pieces are the last lines, and whether a cell is too large is told
pub record IsLast (lines : List ℕ) (refused : Bool) (l : LastLines) : Type 0 where
  pub lines_are : lines ≡ l.text.items ++ l.cells.items
  pub refused_is : l.refused ≡ refused

-- it ended so, or, where no more connections came, for want of memory or because the output failed
abbrev pub EndsSo : FleetEnd → FleetEnd → Type 0
EndsSo served result = (result ≡ served) ⊎ ((has_no_more served ≡ true) × ((result ≡ ended.OutOfMemory) ⊎ (result ≡ ended.WriteFault)))

-- Where a fleet ended because no more connections came, its last lines are printed, or a front of them, and then the end tells why.
pub record EndsJob (served result : FleetEnd) (held held' : Option (List ℕ)) (lines : List ℕ) : Type 0 where
  pub printed : List ℕ
  pub rest : List ℕ
  pub gives : Appends held held' printed
  pub front : printed ++ rest ≡ lines
  pub whole : has_no_more result ≡ true → printed ≡ lines
  pub nothing : has_no_more served ≡ false → printed ≡ []
  pub memory : result ≡ ended.OutOfMemory → printed ≡ []
  pub so : EndsSo served result

-- the same of the rows that a fleet left, of which one is refused where a cell is too large
pub record FinishesJob (served result : FleetEnd) (refused save : Bool) (held held' : Option (List ℕ)) (links : ℕ) (tally : Tally) (store : Store) : Type 0 where
  pub job : EndsJob served result held held' (last_lines links tally save store)
  pub refused_is : refused ≡ (has_no_more result && is_too_large save store)

-- the output failed only where its count rose, before or now
pub record WriteCause (served result : FleetEnd) (writes writes' : ℕ) : Type 0 where
  pub later : writes ≤ writes'
  pub cause : result ≡ ended.WriteFault → (served ≡ ended.WriteFault) ⊎ Rose writes writes'
