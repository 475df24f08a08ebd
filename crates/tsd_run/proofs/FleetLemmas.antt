-- Fleets that served as the words say, from the store that they begin with, and runs for which there was no memory.
use Rattle.std.proofs.Common.{◌≡◌, ◌≢◌, ◌≤◌, inl, inr, ℕ, Bool, true, false, ◌&&◌, List, [], refl, sym, ap, subst, ◌∙◌, arith}
use Rattle.std.specs.Prelude.{Option, None, Some, MatchOption, Ok}
use Rattle.std.proofs.lemmas.Bool.{true≢false}
use Rattle.tsd_io.specs.Causes.{Rose}
use Rattle.row_key.specs.Made.{three}
use Rattle.row_key.specs.declared.widths.Widths.{Widths}
use Rattle.cell_model.specs.Listed.{store_of}
use Rattle.cell_model.specs.Sound.{IsBase}
use Rattle.cell_model.specs.Store.{Store, no_cells}
use Rattle.cell_model.specs.declared.row.Listing.{Listing}
use Rattle.cell_laws.proofs.CallerLemmas.{empty_base}
use Rattle.point_put.specs.Admissions.{Admission}
use Rattle.tsd_fleet.specs.Devices.{ClockTold, DoorsTold, FleetDevices, OutputTold, Terms}
use Rattle.tsd_fleet.specs.declared.fleet_end.FleetEnd.{FleetEnd}
use Rattle.tsd_fleet.specs.declared.fleet_end.FleetEnd.TheVariants as end
use Rattle.serve_job.specs.FleetRuns.{FleetCauses, RunsFleet, has_no_more, is_too_large}
use Rattle.command_words.specs.CommandWords.{Serve, Asked, fleet_asked}
use Rattle.command_words.specs.CommandWords.Asked.{BatchAsked, StdioAsked, ServeAsked, ImportAsked, DumpAsked, FsckAsked, FixAsked, WeaveAsked, PackAsked, UnpackAsked}
use Rattle.image_job.specs.ImageJobs.{LoadsImage}
use Rattle.batch_run.specs.declared.status.Status.{Status}
use Rattle.batch_run.specs.declared.status.Status.TheVariants.{Done, ReadFault, WriteFault, Memory, Stopped, DoorFault, ClockFault}
use Rattle.tsd_run.specs.FleetStatuses.{BeginsWith, LacksStore, ServesFleet, ServesOver, asks_clock, fleet_status}
use Rattle.tsd_run.specs.RunCauses.{HasCauses, HasFleetEnd, HasLoneCauses}
use Rattle.tsd_run.specs.RunDevices.{Devices, InputTold, LoneDevices, fleet, lone}
use Rattle.tsd_run.specs.RunPromises.{Ran, RanAlone, RanFleet}
use Rattle.tsd_run.specs.Runs.{RunsAlone, admission_of, is_stdio}
use Rattle.tsd_run.proofs.StdioLemmas.{runs_unread}

-- ---- what devices tell, part by part

abbrev pub lone_of : InputTold → OutputTold → ClockTold → ℕ → LoneDevices
lone_of i o k stops = record { input = i; output = o; clock = k; stops = stops }

abbrev pub fleet_of : OutputTold → ClockTold → DoorsTold → ℕ → FleetDevices
fleet_of o k d stops = record { output = o; clock = k; doors = d; stops = stops }

abbrev pub devices_of : InputTold → OutputTold → ClockTold → DoorsTold → ℕ → Devices
devices_of i o k d stops = record { input = i; output = o; clock = k; doors = d; stops = stops }

-- ---- statuses

memory_done : Memory ≡ Done → ⊥
memory_done e = cc

memory_read : Memory ≡ ReadFault → ⊥
memory_read e = cc

memory_write : Memory ≡ WriteFault → ⊥
memory_write e = cc

memory_clock : Memory ≡ ClockFault → ⊥
memory_clock e = cc

memory_stop : Memory ≡ Stopped → ⊥
memory_stop e = cc

memory_door : Memory ≡ DoorFault → ⊥
memory_door e = cc

-- ---- there was no memory

memory_causes : (d : LoneDevices) → HasLoneCauses d d Memory
memory_causes d = record {
  reads_later = omega arith;
  writes_later = omega arith;
  clock_later = omega arith;
  stops_later = omega arith;
  read_fault = λ e. absurd (memory_read e);
  write_fault = λ e. absurd (memory_write e);
  clock_fault = λ e. absurd (memory_clock e);
  stopped = λ e. absurd (memory_stop e);
}

memory_doors : (d : Devices) → HasCauses d d Memory
memory_doors d = record { lone_causes = memory_causes (lone d); doors_later = omega arith; door_fault = λ e. absurd (memory_door e) }

memory_ends : (d : Devices) → HasFleetEnd d d Memory
memory_ends d = record { none_left = λ e. absurd (memory_done e); heeded = λ n enough. absurd (enough refl) }

-- for the words of a command that waits for nobody
pub alone_unread : (asked : Option Asked) (i : InputTold) (o : OutputTold) (k : ClockTold) (stops stops' : ℕ) (status : Status) → status ≡ Memory → stops' ≡ stops → RanAlone asked (lone_of i o k stops) (lone_of i o k stops') status
alone_unread asked i o k stops stops' status is same =
    subst (λ (p : Status × ℕ). RanAlone asked (lone_of i o k stops) (lone_of i o k p.1) p.0) (λ j. (sym is j, sym same j)) (record { runs = runs_unread (lone_of i o k stops) asked; causes = memory_causes (lone_of i o k stops) })

matches : (o : Option Serve) (A : Type 0) (F : Serve → Type 0) → A → ((s : Serve) → F s) → MatchOption o A F
matches None A F a f = a
matches (Some s) A F a f = f s

unserved : (s : Serve) (inlets_tell outlets_tell : Type 0) (d : Devices) → ServesFleet s inlets_tell outlets_tell d d Memory
unserved s inlets_tell outlets_tell d = inr (inr (refl, refl, inl refl), record { doors = refl; clock = refl; stops = refl })

-- for the rule of a fleet
pub starved : (s : Serve) (inlets_tell outlets_tell : Type 0) (i : InputTold) (o : OutputTold) (k : ClockTold) (d : DoorsTold) (stops stops' : ℕ) (status : Status) → status ≡ Memory → stops' ≡ stops
    → RanFleet s inlets_tell outlets_tell (devices_of i o k d stops) (devices_of i o k d stops') status
starved s inlets_tell outlets_tell i o k d stops stops' status is same =
    let all = devices_of i o k d stops in
    subst (λ (p : Status × ℕ). RanFleet s inlets_tell outlets_tell (devices_of i o k d stops) (devices_of i o k d p.1) p.0) (λ j. (sym is j, sym same j)) (record { serves = unserved s inlets_tell outlets_tell all; causes = memory_doors all; ends = memory_ends all })

-- for any words
pub unread : (asked : Option Asked) (inlets_tell outlets_tell : Type 0) (i : InputTold) (o : OutputTold) (k : ClockTold) (d : DoorsTold) (stops stops' : ℕ) (status : Status) → status ≡ Memory → stops' ≡ stops
    → Ran asked inlets_tell outlets_tell (devices_of i o k d stops) (devices_of i o k d stops') status
unread asked inlets_tell outlets_tell i o k d stops stops' status is same =
    let all = devices_of i o k d stops in
    subst (λ (p : Status × ℕ). Ran asked inlets_tell outlets_tell (devices_of i o k d stops) (devices_of i o k d p.1) p.0) (λ j. (sym is j, sym same j)) (record {
      runs = matches (fleet_asked asked) (RunsAlone asked (lone all) (lone all) Memory) (λ s. ServesFleet s inlets_tell outlets_tell all all Memory) (runs_unread (lone all) asked) (λ s. unserved s inlets_tell outlets_tell all);
      causes = memory_doors all;
      ends = λ some. memory_ends all;
    })

-- ---- the store that a fleet begins with

pub none_made : (l : Listing) (w : Widths) → l ≡ record { widths = w; lines = [] } → w ≡ three → l ≡ record { widths = three; lines = [] }
none_made l w is same = is ∙ ap (λ (x : Widths). record { widths = x; lines = [] }) same

no_store : (l : Listing) → l ≡ record { widths = three; lines = [] } → store_of l ≡ no_cells three
no_store l is = ap store_of is

pub begins_empty : (image : Bool) (i : InputTold) (l : Listing) → image ≡ false → l ≡ record { widths = three; lines = [] } → BeginsWith image i i (store_of l)
begins_empty image i l none is = subst (λ (b : Bool). BeginsWith b i i (store_of l)) (sym none) (refl, no_store l is)

pub base_empty : (l : Listing) → l ≡ record { widths = three; lines = [] } → IsBase (store_of l)
base_empty l is = subst IsBase (sym (no_store l is)) (empty_base three)

pub begins_loaded : (image : Bool) (i i' : InputTold) (held held' : Option (List ℕ)) (l : Listing) → image ≡ true → LoadsImage i.taken i'.taken i.left i'.left held held' (Ok l) → BeginsWith image i i' (store_of l)
begins_loaded image i i' held held' l so t = subst (λ (b : Bool). BeginsWith b i i' (store_of l)) (sym so) (record {
  bytes = t.bytes;
  takes = t.takes;
  leaves = t.leaves;
  ended = t.loads.0;
  short = t.loads.1;
  listing = l;
  reads = t.loads.2;
  base_is = refl;
})

-- ---- a fleet, from the store that it begins with

-- where the halt refused, the status says so, unless memory ran out
heeded_so : (ended : FleetEnd) (refused large : Bool) (A : Type 0) → refused ≡ (has_no_more ended && large) → (ended ≢ end.Stopped → ended ≢ end.OutOfMemory → A) → fleet_status ended refused ≢ Stopped → fleet_status ended refused ≢ Memory → A
heeded_so end.Closed refused large A is heeded n m = heeded (λ e. cc) (λ e. cc)
heeded_so end.Died refused large A is heeded n m = heeded (λ e. cc) (λ e. cc)
heeded_so end.DoorFault refused large A is heeded n m = heeded (λ e. cc) (λ e. cc)
heeded_so end.WriteFault refused large A is heeded n m = heeded (λ e. cc) (λ e. cc)
heeded_so end.Stopped true large A is heeded n m = absurd (true≢false is)
heeded_so end.Stopped false large A is heeded n m = absurd (n refl)
heeded_so end.OutOfMemory true large A is heeded n m = absurd (true≢false is)
heeded_so end.OutOfMemory false large A is heeded n m = absurd (m refl)

-- what the status of a fleet's end tells of that end
pub record TellsEnd (ended : FleetEnd) (refused : Bool) (status : Status) : Type 0 where
  pub is : status ≡ fleet_status ended refused
  pub done : status ≡ Done → has_no_more ended ≡ true
  pub stopped : status ≡ Stopped → ended ≡ end.Stopped
  pub door_fault : status ≡ DoorFault → ended ≡ end.DoorFault
  pub write_fault : status ≡ WriteFault → ended ≡ end.WriteFault
  pub no_read : status ≢ ReadFault
  pub no_clock : status ≢ ClockFault

module _ (s : Serve) (inlets_tell outlets_tell : Type 0) where
  abbrev pub terms_on : ℕ → Admission → Store → Terms
  terms_on port a base = record { port = port; admission = a; base = base; inlets_tell = inlets_tell; outlets_tell = outlets_tell }

  served_over : (before after : FleetDevices) (base : Store) (port : ℕ) (a : Admission) (ended : FleetEnd) (refused : Bool) (status : Status) → port ≡ s.port → a ≡ admission_of s.names s.appends → status ≡ fleet_status ended refused
      → RunsFleet (terms_on port a base) s.save before after ended refused → ServesOver s inlets_tell outlets_tell base before after status
  served_over before after base port a ended refused status port_is admits is runs =
      (ended, refused, is, subst (λ (p : ℕ × Admission). RunsFleet (terms_on p.0 p.1 base) s.save before after ended refused) (λ j. (port_is j, admits j)) runs)

  pub ran_served : (i i' : InputTold) (o mid o' : OutputTold) (k k' : ClockTold) (d d' : DoorsTold) (stops stops' : ℕ) (base : Store) (port : ℕ) (a : Admission) (ended : FleetEnd) (refused : Bool) (status : Status)
      → mid ≡ o → BeginsWith s.image i i' base → i.faults ≤ i'.faults → port ≡ s.port → a ≡ admission_of s.names s.appends → TellsEnd ended refused status
      → RunsFleet (terms_on port a base) s.save (fleet_of mid k d stops) (fleet_of o' k' d' stops') ended refused → FleetCauses (fleet_of mid k d stops) (fleet_of o' k' d' stops') ended
      → RanFleet s inlets_tell outlets_tell (devices_of i o k d stops) (devices_of i' o' k' d' stops') status
  ran_served i i' o mid o' k k' d d' stops stops' base port a ended refused status same begins reads port_is admits tells runs causes =
      subst (λ (m : OutputTold). RanFleet s inlets_tell outlets_tell (devices_of i m k d stops) (devices_of i' o' k' d' stops') status) same (record {
        serves = inl (base, begins, served_over (fleet_of mid k d stops) (fleet_of o' k' d' stops') base port a ended refused status port_is admits tells.is runs);
        causes = record {
          lone_causes = record {
            reads_later = reads;
            writes_later = causes.later.writes;
            clock_later = causes.later.clock;
            stops_later = causes.later.stops;
            read_fault = λ is. absurd (tells.no_read is);
            write_fault = λ is. causes.write_fault (tells.write_fault is);
            clock_fault = λ is. absurd (tells.no_clock is);
            stopped = λ is. causes.stopped (tells.stopped is);
          };
          doors_later = causes.later.doors;
          door_fault = λ is. causes.door_fault (tells.door_fault is);
        };
        ends = record {
          none_left = λ is. causes.none_left (tells.done is);
          heeded = λ n m. heeded_so ended refused (is_too_large s.save runs.serves.store) (stops' ≡ stops) runs.refused_is causes.heeded (λ e. n (tells.is ∙ e)) (λ e. m (tells.is ∙ e));
        };
      })

  pub ran_without : (i i' : InputTold) (o o' : OutputTold) (k : ClockTold) (d : DoorsTold) (stops : ℕ) (status : Status) → LacksStore s.image i i' o.held o'.held status → i.faults ≤ i'.faults → o.faults ≤ o'.faults
      → (status ≡ ReadFault → Rose i.faults i'.faults) → (status ≡ WriteFault → Rose o.faults o'.faults) → status ≢ Done → status ≢ ClockFault → status ≢ Stopped → status ≢ DoorFault
      → RanFleet s inlets_tell outlets_tell (devices_of i o k d stops) (devices_of i' o' k d stops) status
  ran_without i i' o o' k d stops status lacks reads writes read_fault write_fault not_done no_clock no_stop no_door = record {
    serves = inr (lacks, record { doors = refl; clock = refl; stops = refl });
    causes = record {
      lone_causes = record {
        reads_later = reads;
        writes_later = writes;
        clock_later = omega arith;
        stops_later = omega arith;
        read_fault = read_fault;
        write_fault = write_fault;
        clock_fault = λ is. absurd (no_clock is);
        stopped = λ is. absurd (no_stop is);
      };
      doors_later = omega arith;
      door_fault = λ is. absurd (no_door is);
    };
    ends = record { none_left = λ is. absurd (not_done is); heeded = λ n m. refl };
  }

-- ---- any words

module _ (asked : Option Asked) (inlets_tell outlets_tell : Type 0) where
  -- a fleet is asked for
  pub ran_fleet : (before after : Devices) (status : Status) (s : Serve) → Some s ≡ fleet_asked asked → RanFleet s inlets_tell outlets_tell before after status → Ran asked inlets_tell outlets_tell before after status
  ran_fleet before after status s is ran = record {
    runs = subst (λ (o : Option Serve). MatchOption o (RunsAlone asked (lone before) (lone after) status) (λ f. ServesFleet f inlets_tell outlets_tell before after status)) is ran.serves;
    causes = ran.causes;
    ends = λ some. ran.ends;
  }

-- ---- which devices are asked

pub alone_asks : (asked : Option Asked) → None ≡ fleet_asked asked → is_stdio asked ≡ asks_clock asked
alone_asks (Some (ServeAsked f)) is = absurd cc
alone_asks (Some (BatchAsked batch)) is = refl
alone_asks (Some (StdioAsked c)) is = refl
alone_asks (Some (ImportAsked i)) is = refl
alone_asks (Some (DumpAsked widths)) is = refl
alone_asks (Some (FsckAsked widths)) is = refl
alone_asks (Some (FixAsked widths)) is = refl
alone_asks (Some (WeaveAsked w)) is = refl
alone_asks (Some (PackAsked widths)) is = refl
alone_asks (Some UnpackAsked) is = refl
alone_asks None is = refl
