-- What `run` promises where the words ask for a fleet.
use Rattle.std.specs.Prelude.{◌≡◌, ◌≢◌, ◌⊎◌, ℕ, ◌^◌, ◌<◌, Bool, true, false, length, List, Option, Some, Err, Ok}
use Rattle.std.specs.Io.KnownBytes.{Appends, Consumes, IsAtEnd}
use Rattle.row_key.specs.Made.{three}
use Rattle.cell_model.specs.Listed.{store_of}
use Rattle.cell_model.specs.Store.{Store, no_cells}
use Rattle.cell_model.specs.declared.row.Listing.{Listing}
use Rattle.cell_image.specs.ImageReads.{image_read}
use Rattle.cell_image.specs.Images.{width_bytes}
use Rattle.listing_job.specs.declared.listing_end.ListingEnd.{ListingEnd}
use Rattle.image_job.specs.ImageJobs.{LoadsImage}
use Rattle.tsd_fleet.specs.Devices.{FleetDevices, Terms}
use Rattle.tsd_fleet.specs.declared.fleet_end.FleetEnd.{FleetEnd}
use Rattle.tsd_fleet.specs.declared.fleet_end.FleetEnd.TheVariants as end
use Rattle.serve_job.specs.FleetRuns.{RunsFleet}
use Rattle.command_words.specs.CommandWords.{Serve, Asked}
use Rattle.command_words.specs.CommandWords.Asked.{StdioAsked, ServeAsked}
use Rattle.batch_run.specs.declared.status.Status.{Status}
use Rattle.batch_run.specs.declared.status.Status.TheVariants.{Done, Refused, WriteFault, Memory, Stopped, DoorFault}
use Rattle.tsd_run.specs.RunDevices.{Devices, InputTold, fleet}
use Rattle.tsd_run.specs.Runs.{admission_of, listing_status}

-- of each end of a fleet the status
abbrev pub status_of : FleetEnd → Status
status_of end.Closed = Done
status_of end.Died = Done
status_of end.Stopped = Stopped
status_of end.DoorFault = DoorFault
status_of end.WriteFault = WriteFault
status_of end.OutOfMemory = Memory

-- and where its store was to be saved and has no image, it is refused
abbrev pub fleet_status : FleetEnd → Bool → Status
fleet_status ended true = Refused
fleet_status ended false = status_of ended

-- the bytes that were taken of the input, to its end, are the image of a listing, whose store this is
pub record TakesStore (before after : InputTold) (base : Store) : Type 0 where
  pub bytes : List ℕ
  pub takes : Appends before.taken after.taken bytes
  pub leaves : Consumes before.left after.left bytes
  pub ended : IsAtEnd after.left
  pub short : length bytes < 2 ^ 40
  pub listing : Listing
  pub reads : image_read bytes ≡ Ok (width_bytes listing.widths, listing.lines)
  pub base_is : base ≡ store_of listing

-- the store that a fleet begins with: of an image the one that was taken, and else an empty one
abbrev pub BeginsWith : Bool → (before after : InputTold) → Store → Type 0
BeginsWith true before after base = TakesStore before after base
BeginsWith false before after base = (after ≡ before) × (base ≡ no_cells three)

-- None was loaded: the image wasn't read, or it is refused, as was told. Or there was no memory for the words, for the rule for new names or for the store, and nothing was printed.
abbrev pub LacksStore : Bool → (before after : InputTold) → (held held' : Option (List ℕ)) → Status → Type 0
LacksStore image before after held held' status =
    ((ended : ListingEnd) × (status ≡ listing_status ended) × (status ≢ Done) × (image ≡ true) × LoadsImage before.taken after.taken before.left after.left held held' (Err ended))
    ⊎ ((status ≡ Memory) × (held' ≡ held) × ((after ≡ before) ⊎ ((base : Store) × BeginsWith image before after base)))

-- no port was bound, and neither the clock nor the halt was asked
pub record ServesNone (before after : Devices) : Type 0 where
  pub doors : after.doors ≡ before.doors
  pub clock : after.clock ≡ before.clock
  pub stops : after.stops ≡ before.stops

-- what is asked of a fleet that begins with this store
abbrev pub terms_of : Serve → (inlets_tell outlets_tell : Type 0) → Store → Terms
terms_of s inlets_tell outlets_tell base = record { port = s.port; admission = admission_of s.names s.appends; base = base; inlets_tell = inlets_tell; outlets_tell = outlets_tell }

-- a fleet served its connections over this store, on the port that the words name, and the status is that of its end
abbrev pub ServesOver : Serve → (inlets_tell outlets_tell : Type 0) → Store → (before after : FleetDevices) → Status → Type 0
ServesOver s inlets_tell outlets_tell base before after status =
    (ended : FleetEnd) × (refused : Bool) × (status ≡ fleet_status ended refused) × RunsFleet (terms_of s inlets_tell outlets_tell base) s.save before after ended refused

-- a fleet served over the store that it begins with, or there is none, and then no port is bound
abbrev pub ServesFleet : Serve → (inlets_tell outlets_tell : Type 0) → (before after : Devices) → Status → Type 0
ServesFleet s inlets_tell outlets_tell before after status =
    ((base : Store) × BeginsWith s.image before.input after.input base × ServesOver s inlets_tell outlets_tell base (fleet before) (fleet after) status)
    ⊎ (LacksStore s.image before.input after.input before.output.held after.output.held status × ServesNone before after)

-- ---- which devices a command asks

-- a fleet takes nothing of the input but an image
abbrev pub reads_input : Option Asked → Bool
reads_input (Some (ServeAsked s)) = s.image
reads_input asked = true

-- the clock is asked by a connection, and by those of a fleet
abbrev pub asks_clock : Option Asked → Bool
asks_clock (Some (ServeAsked s)) = true
asks_clock (Some (StdioAsked s)) = true
asks_clock asked = false
