-- What a fleet does, from the port that it binds to the numbers of the store that it leaves.
use Rattle.std.specs.Prelude.{◌≡◌, ◌≢◌, ◌⊎◌, ℕ, ◌+◌, ◌-◌, ◌^◌, min, Bool, true, false, List, [], ◌∷◌, ◌++◌, length, codes, decimal, Option, None, Some}
use Rattle.std.specs.List.{list_any}
use Rattle.std.specs.Io.KnownBytes.{Appends}
use Rattle.tsd_io.specs.Causes.{Rose}
use Rattle.tsd_doors.specs.Links.{Counts, accepted}
use Rattle.link_acceptor.specs.declared.accept_loop.AcceptEnd.{AcceptEnd}
use Rattle.link_acceptor.specs.declared.accept_loop.AcceptEnd.TheVariants.{NoneLeft, Stopped, DoorFault}
use Rattle.link_acceptor.specs.Accepting.{AsksEach, IsNoneLeft}
use Rattle.cell_model.specs.declared.answers.Tally.{Tally}
use Rattle.cell_model.specs.Store.{Store}
use Rattle.cell_model.specs.Counts.{counters_of, point_entries, point_rows}
use Rattle.cell_region.specs.DividedStore.{DividedStore}
use Rattle.tsd_daemon.specs.declared.served.Served.{Served}
use Rattle.tsd_daemon.specs.declared.served.Served.TheVariants as answer
use Rattle.tsd_fleet.specs.declared.fleet_end.FleetEnd.{FleetEnd}
use Rattle.tsd_fleet.specs.declared.fleet_end.FleetEnd.TheVariants as ended
use Rattle.tsd_fleet.specs.Devices.{FleetDevices, NoneFalls, Terms}
use Rattle.tsd_fleet.specs.FleetStands.{FleetStands}

-- what a fleet tells at its end: why it ended, how many connections it accepted, how those ended that were given back, and the numbers of the store that it left
pub record Outcome : Type 0 where
  pub end : FleetEnd
  pub links : ℕ
  pub ends : List Served
  pub tally : Tally

-- that of a fleet that accepted no connection
abbrev pub outcome_none : FleetEnd → Tally → Outcome
outcome_none result tally = record { end = result; links = 0; ends = []; tally = tally }

-- ---- the line of the port

-- the line that tells the port
abbrev pub listening_line : ℕ → List ℕ
listening_line port = codes "listening " ++ decimal port ++ 10 ∷ []

-- this port was bound, the one that was asked for, or for 0 any
pub record BindsAsked (asked : ℕ) (bound : Option ℕ) (port : ℕ) : Type 0 where
  pub bound_is : bound ≡ Some port
  pub asked_is : asked ≢ 0 → port ≡ asked

-- nothing, or a front of the line of the port that was bound
abbrev pub IsFirstFront : List ℕ → ℕ → Option ℕ → Type 0
IsFirstFront given asked bound = (given ≡ []) ⊎ ((port : ℕ) × (rest : List ℕ) × BindsAsked asked bound port × (given ++ rest ≡ listening_line port))

-- the port was bound, and its line was written
abbrev pub Listens : ℕ → Option (List ℕ) → Option (List ℕ) → Counts → Type 0
Listens asked held held' now = (port : ℕ) × BindsAsked asked now.port port × Appends held held' (listening_line port)

-- no more than a front of the line was written
abbrev pub BeginsToListen : ℕ → Option (List ℕ) → Option (List ℕ) → Counts → Type 0
BeginsToListen asked held held' now = (given : List ℕ) × Appends held held' given × IsFirstFront given asked now.port

-- listening failed so only for its cause
abbrev pub IsListenFault : FleetEnd → ℕ → ℕ → ℕ → ℕ → Type 0
IsListenFault ended.DoorFault doors doors' writes writes' = Rose doors doors'
IsListenFault ended.WriteFault doors doors' writes writes' = Rose writes writes'
IsListenFault ended.OutOfMemory doors doors' writes writes' = Unit {0}
IsListenFault other doors doors' writes writes' = ⊥

-- The line of the port was written where accepting ended by itself. After a fault of the doors it was too, or nothing was. In each case nothing else was written.
pub record HasListened (asked : ℕ) (before after : FleetDevices) (result : FleetEnd) : Type 0 where
  pub closed : result ≡ ended.Closed → Listens asked before.output.held after.output.held after.doors.counts
  pub died : result ≡ ended.Died → Listens asked before.output.held after.output.held after.doors.counts
  pub stopped : result ≡ ended.Stopped → Listens asked before.output.held after.output.held after.doors.counts
  pub fault : result ≡ ended.DoorFault → Appends before.output.held after.output.held [] ⊎ Listens asked before.output.held after.output.held after.doors.counts
  pub begun : BeginsToListen asked before.output.held after.output.held after.doors.counts

-- ---- the connections

-- the numbers of a store
pub record IsTally (store : Store) (tally : Tally) : Type 0 where
  pub ids : tally.ids ≡ counters_of store
  pub rows : tally.point_rows ≡ length (point_rows store)
  pub cells : tally.point_cells ≡ length (point_entries store)

-- Over one lawful history over the base each connection that was given back was served, and these are the numbers of the store after it.
pub record FleetServes (terms : Terms) (before after : FleetDevices) (ends : List Served) (tally : Tally) : Type 0 where
  pub store : Store
  pub stands : FleetStands terms before after store ends
  pub tally_is : IsTally store tally

-- So many connections were accepted, up to the last u64. As many were given back as there are ends, and unless memory ran out these were all.
pub record CountsLinks (before after : FleetDevices) (result : FleetEnd) (links ends : ℕ) : Type 0 where
  pub links_are : links ≡ min (accepted after.doors.counts - accepted before.doors.counts) (2 ^ 64 - 1)
  pub returned : after.doors.counts.returned ≡ before.doors.counts.returned + ends
  pub all : result ≢ ended.OutOfMemory → accepted after.doors.counts ≡ accepted before.doors.counts + ends

-- the rows of the store are handed back, in as many regions, unless memory ran out
pub record KeepsRows (result : FleetEnd) (store : Store) (data_regions : ℕ) (rows : Option DividedStore) : Type 0 where
  pub none : result ≡ ended.OutOfMemory → rows ≡ None
  pub kept : result ≢ ended.OutOfMemory → rows ≡ Some (record { data_regions = data_regions; content = store })

-- ---- why it ended

-- the request to end the program came
abbrev pub is_die : Served → Bool
is_die answer.Die = true
is_die other = false

-- a fleet ends so only for its reason, and where the halt refused it ends so, or for want of memory
pub record HasFleetReason (before after : FleetDevices) (result : FleetEnd) (ends : List Served) : Type 0 where
  pub closed : result ≡ ended.Closed → IsNoneLeft before.doors.waiting after.doors.waiting × (list_any is_die ends ≡ false)
  pub died : result ≡ ended.Died → IsNoneLeft before.doors.waiting after.doors.waiting × (list_any is_die ends ≡ true)
  pub stopped : result ≡ ended.Stopped → Rose before.stops after.stops
  pub heeded : result ≢ ended.Stopped → result ≢ ended.OutOfMemory → after.stops ≡ before.stops
  pub door_fault : result ≡ ended.DoorFault → Rose before.doors.faults after.doors.faults
  pub write_fault : result ≡ ended.WriteFault → Rose before.output.faults after.output.faults

-- ---- what the halt was asked

-- The halt was asked once before each accept: for each connection, for the accept that gave none or failed, and once where it refused.
pub record AsksAccepts {H : Type 0} (answers : H → Bool → H → Type 0) (before after : FleetDevices) (old new : H) (result : FleetEnd) : Type 0 where
  pub accepting : AcceptEnd
  pub asked : AsksEach answers accepting (accepted after.doors.counts - accepted before.doors.counts) old new
  pub closed : result ≡ ended.Closed → accepting ≡ NoneLeft
  pub died : result ≡ ended.Died → accepting ≡ NoneLeft
  pub stopped : result ≡ ended.Stopped → accepting ≡ Stopped
  pub door_fault : result ≡ ended.DoorFault → accepting ≡ DoorFault

-- No accept was tried, since listening failed or memory ran out: no connection came, and the halt was asked nothing. After a fault of the doors, which couldn't bind the port, nothing was written.
pub record AsksNothing {H : Type 0} (before after : FleetDevices) (old new : H) (result : FleetEnd) : Type 0 where
  pub none : accepted after.doors.counts ≡ accepted before.doors.counts
  pub unasked : new ≡ old
  pub vain : (result ≡ ended.DoorFault) ⊎ ((result ≡ ended.WriteFault) ⊎ (result ≡ ended.OutOfMemory))
  pub unbound : result ≡ ended.DoorFault → Appends before.output.held after.output.held []

-- the line of the port was written and the halt was asked so, or no accept was tried
abbrev pub FleetAsks : {H : Type 0} → (H → Bool → H → Type 0) → Terms → FleetDevices → FleetDevices → H → H → FleetEnd → Type 0
FleetAsks answers terms before after old new result =
    (Listens terms.port before.output.held after.output.held after.doors.counts × AsksAccepts answers before after old new result) ⊎ AsksNothing before after old new result

-- ---- all of it

-- what the serving of connections comes to, once the port was bound
pub record ServesLinks {H : Type 0} (answers : H → Bool → H → Type 0) (terms : Terms) (before after : FleetDevices) (old new : H) (o : Outcome) : Type 0 where
  pub serves : FleetServes terms before after o.ends o.tally
  pub counts : CountsLinks before after o.end o.links (length o.ends)
  pub reason : HasFleetReason before after o.end o.ends
  pub asked : AsksAccepts answers before after old new o.end

-- the same, and the store that is left is handed back
pub record ServesKept {H : Type 0} (answers : H → Bool → H → Type 0) (terms : Terms) (before after : FleetDevices) (old new : H) (o : Outcome) (data_regions : ℕ) (rows : Option DividedStore) : Type 0 where
  pub served : ServesLinks answers terms before after old new o
  pub keeps : KeepsRows o.end served.serves.store data_regions rows

-- What a fleet does. Over the store's one history each connection that was given back was served, with its end; it ended for its reason; the line of the port was written; the halt was asked once
-- before each accept; and no count fell.
pub record FleetDoes {H : Type 0} (answers : H → Bool → H → Type 0) (terms : Terms) (before after : FleetDevices) (old new : H) (o : Outcome) : Type 0 where
  pub serves : FleetServes terms before after o.ends o.tally
  pub counts : CountsLinks before after o.end o.links (length o.ends)
  pub reason : HasFleetReason before after o.end o.ends
  pub listens : HasListened terms.port before after o.end
  pub asked : FleetAsks answers terms before after old new o.end
  pub later : NoneFalls before after

-- the same, and the store after that history is handed back
pub record FleetKeeps {H : Type 0} (answers : H → Bool → H → Type 0) (terms : Terms) (before after : FleetDevices) (old new : H) (o : Outcome) (data_regions : ℕ) (rows : Option DividedStore) : Type 0 where
  pub does : FleetDoes answers terms before after old new o
  pub keeps : KeepsRows o.end does.serves.store data_regions rows
