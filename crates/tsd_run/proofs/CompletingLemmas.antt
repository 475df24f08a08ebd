-- A run whose devices don't fail ends by itself.
use Rattle.std.proofs.Common.{◌≡◌, ◌^◌, ◌<◌, ◌⊎◌, inl, inr, ⊎_elim, ℕ, Bool, true, false, List, refl, arith}
use Rattle.std.specs.Prelude.{length, Option, Some, Err}
use Rattle.row_key.specs.declared.widths.Widths.{Widths}
use Rattle.tsd_daemon.specs.declared.served.Served.{Served}
use Rattle.tsd_daemon.specs.declared.served.Served.TheVariants as served
use Rattle.tsd_daemon.specs.ServedConns.{Fills}
use Rattle.command_words.specs.CommandWords.{Asked, Serve}
use Rattle.command_words.specs.CommandWords.Asked.{BatchAsked, StdioAsked, ServeAsked, ImportAsked, DumpAsked, FsckAsked, FixAsked, WeaveAsked, PackAsked, UnpackAsked}
use Rattle.import_job.specs.declared.import_end.ImportEnd.{ImportEnd}
use Rattle.import_job.specs.declared.import_end.ImportEnd.TheVariants as imported
use Rattle.import_job.specs.ImportAnswers.{PassesImport}
use Rattle.cell_listing.specs.ListedLines.{ListingRead}
use Rattle.cell_image.specs.declared.image_fault.ImageFault.{ImageFault}
use Rattle.cell_image.specs.declared.image_fault.ImageFault.TheVariants as fault
use Rattle.listing_job.specs.declared.listing_end.ListingEnd.{ListingEnd}
use Rattle.listing_job.specs.declared.listing_end.ListingEnd.TheVariants as listing
use Rattle.listing_job.specs.ListingJobs.{OverListing, Told}
use Rattle.image_job.specs.ImageJobs.{GivesRefusal, LoadsImage, OverImage, Unpacked}
use Rattle.tsd_fleet.specs.declared.fleet_end.FleetEnd.{FleetEnd}
use Rattle.tsd_fleet.specs.declared.fleet_end.FleetEnd.TheVariants as end
use Rattle.batch_run.specs.declared.status.Status.TheVariants.{Done, Usage, Refused, ReadFault, WriteFault, Memory, Stopped, DoorFault, SessionFull, ClockFault}
use Rattle.batch_run.proofs.CallerLemmas.{batch_usage}
use Rattle.tsd_run.specs.FleetStatuses.{LacksStore, ServesFleet, fleet_status}
use Rattle.tsd_run.specs.RunCompletes.{IsShort, RunCompletes}
use Rattle.tsd_run.specs.RunDevices.{Devices, InputTold}
use Rattle.tsd_run.specs.RunPromises.{Runs}
use Rattle.tsd_run.specs.Runs.{HasStatus, import_status, listing_status}

-- ---- statuses that none of the ends has

listing_usage : (e : ListingEnd) → Usage ≡ listing_status e → ⊥
listing_usage listing.Done is = cc
listing_usage listing.Refused is = cc
listing_usage listing.ReadFault is = cc
listing_usage listing.WriteFault is = cc
listing_usage listing.OutOfMemory is = cc
listing_usage listing.SessionFull is = cc

import_usage : (e : ImportEnd) → Usage ≡ import_status e → ⊥
import_usage imported.Done is = cc
import_usage imported.Refused is = cc
import_usage imported.ReadFault is = cc
import_usage imported.WriteFault is = cc
import_usage imported.OutOfMemory is = cc
import_usage imported.Stopped is = cc
import_usage imported.SessionFull is = cc

served_usage : (s : Served) → HasStatus s Usage → ⊥
served_usage served.End is = cc
served_usage served.Exit is = cc
served_usage served.Die is = cc
served_usage served.Closed is = cc
served_usage served.ReadFault is = cc
served_usage served.WriteFault is = cc
served_usage served.ClockFault is = cc
served_usage served.Stopped is = cc
served_usage served.SessionFull is = cc
served_usage served.OutOfMemory is = cc

fleet_usage : (e : FleetEnd) (refused : Bool) → Usage ≡ fleet_status e refused → ⊥
fleet_usage e true is = cc
fleet_usage end.Closed false is = cc
fleet_usage end.Died false is = cc
fleet_usage end.Stopped false is = cc
fleet_usage end.DoorFault false is = cc
fleet_usage end.WriteFault false is = cc
fleet_usage end.OutOfMemory false is = cc

fleet_full : (e : FleetEnd) (refused : Bool) → SessionFull ≡ fleet_status e refused → ⊥
fleet_full e true is = cc
fleet_full end.Closed false is = cc
fleet_full end.Died false is = cc
fleet_full end.Stopped false is = cc
fleet_full end.DoorFault false is = cc
fleet_full end.WriteFault false is = cc
fleet_full end.OutOfMemory false is = cc

-- ---- 2^40 bytes aren't short

too_long : (n : ℕ) → n ≡ 2 ^ 40 → n < 2 ^ 40 → ⊥
too_long n is short = omega arith

-- what was taken fills the longest input, or else it was told of, which never ends so
full_unread : (bytes : List ℕ) (A B : Type 0) → (A → ⊥) → ((length bytes ≡ 2 ^ 40) × B) ⊎ A → length bytes ≡ 2 ^ 40
full_unread bytes A B never (inl u) = u.0
full_unread bytes A B never (inr a) = absurd (never a)

no_refusal : (why : ImageFault) (held held' : Option (List ℕ)) → GivesRefusal why held held' listing.SessionFull → ⊥
no_refusal (fault.CutShort at) held held' g = g
no_refusal fault.BadMark held held' g = g
no_refusal fault.BadWidths held held' g = g
no_refusal (fault.BadTable at) held held' g = g
no_refusal (fault.EmptyPart at) held held' g = g
no_refusal (fault.NotRising at) held held' g = g
no_refusal (fault.Trailing at) held held' g = g
no_refusal fault.OutOfMemory held held' g = full_memory g.0 where
  full_memory : listing.SessionFull ≡ listing.OutOfMemory → ⊥
  full_memory is = cc

module _ (before after : InputTold) (held held' : Option (List ℕ)) (short : IsShort before after) where
  import_full : (w : Widths) (compact : Bool) (e : ImportEnd) → PassesImport w compact before.taken after.taken before.left after.left held held' e → SessionFull ≡ import_status e → ⊥
  import_full w compact imported.Done p is = cc
  import_full w compact imported.Refused p is = cc
  import_full w compact imported.ReadFault p is = cc
  import_full w compact imported.WriteFault p is = cc
  import_full w compact imported.OutOfMemory p is = cc
  import_full w compact imported.Stopped p is = cc
  import_full w compact imported.SessionFull p is = too_long (length p.input) p.answers.1 (short p.input p.takes)

  listing_full : (Tells : ListingRead → Told → Type 0) (w : Widths) (e : ListingEnd) → OverListing Tells w before.taken after.taken before.left after.left held held' e → SessionFull ≡ listing_status e → ⊥
  listing_full Tells w listing.Done o is = cc
  listing_full Tells w listing.Refused o is = cc
  listing_full Tells w listing.ReadFault o is = cc
  listing_full Tells w listing.WriteFault o is = cc
  listing_full Tells w listing.OutOfMemory o is = cc
  listing_full Tells w listing.SessionFull o is = too_long (length o.bytes) (full_unread o.bytes _ _ (λ told. told.2) o.ends) (short o.bytes o.takes)

  unpack_full : (e : ListingEnd) → OverImage Unpacked before.taken after.taken before.left after.left held held' e → SessionFull ≡ listing_status e → ⊥
  unpack_full listing.Done o is = cc
  unpack_full listing.Refused o is = cc
  unpack_full listing.ReadFault o is = cc
  unpack_full listing.WriteFault o is = cc
  unpack_full listing.OutOfMemory o is = cc
  unpack_full listing.SessionFull o is = too_long (length o.bytes) (full_unread o.bytes _ _ (λ s. ⊎_elim (λ x. no_refusal x.0 held held' x.2) (λ x. x.2.2) s) o.ends) (short o.bytes o.takes)

  load_full : (e : ListingEnd) → LoadsImage before.taken after.taken before.left after.left held held' (Err e) → SessionFull ≡ listing_status e → ⊥
  load_full listing.Done o is = cc
  load_full listing.Refused o is = cc
  load_full listing.ReadFault o is = cc
  load_full listing.WriteFault o is = cc
  load_full listing.OutOfMemory o is = cc
  load_full listing.SessionFull o is = too_long (length o.bytes) (full_unread o.bytes _ _ (λ s. ⊎_elim (λ x. no_refusal x.0 held held' x.2) (λ x. x.2.2.3) s) o.loads) (short o.bytes o.takes)

  lacks_full : (image : Bool) → LacksStore image before after held held' SessionFull → ⊥
  lacks_full image (inl x) = load_full x.0 x.4 x.1
  lacks_full image (inr x) = full_memory x.0 where
    full_memory : SessionFull ≡ Memory → ⊥
    full_memory is = cc

lacks_usage : (image : Bool) (before after : InputTold) (held held' : Option (List ℕ)) → LacksStore image before after held held' Usage → ⊥
lacks_usage image before after held held' (inl x) = listing_usage x.0 x.1
lacks_usage image before after held held' (inr x) = usage_memory x.0 where
  usage_memory : Usage ≡ Memory → ⊥
  usage_memory is = cc

-- ---- fleets

fleet_usages : (s : Serve) (inlets_tell outlets_tell : Type 0) (before after : Devices) → ServesFleet s inlets_tell outlets_tell before after Usage → ⊥
fleet_usages s inlets_tell outlets_tell before after (inl (base, begins, x)) = fleet_usage x.0 x.1 x.2
fleet_usages s inlets_tell outlets_tell before after (inr x) = lacks_usage s.image before.input after.input before.output.held after.output.held x.0

fleet_fulls : (s : Serve) (inlets_tell outlets_tell : Type 0) (before after : Devices) → IsShort before.input after.input → ServesFleet s inlets_tell outlets_tell before after SessionFull → ⊥
fleet_fulls s inlets_tell outlets_tell before after short (inl (base, begins, x)) = fleet_full x.0 x.1 x.2
fleet_fulls s inlets_tell outlets_tell before after short (inr x) = lacks_full before.input after.input before.output.held after.output.held short s.image x.0

-- ---- a connection of its own

served_full : (r : Served) (n : ℕ) → HasStatus r SessionFull → Fills r n → n ≡ 2 ^ 40
served_full served.End n is fills = cc
served_full served.Exit n is fills = cc
served_full served.Die n is fills = cc
served_full served.Closed n is fills = cc
served_full served.ReadFault n is fills = cc
served_full served.WriteFault n is fills = cc
served_full served.ClockFault n is fills = cc
served_full served.Stopped n is fills = cc
served_full served.SessionFull n is fills = fills
served_full served.OutOfMemory n is fills = cc

-- ---- any command

no_usage : (asked : Asked) (inlets_tell outlets_tell : Type 0) (before after : Devices) → Runs (Some asked) inlets_tell outlets_tell before after Usage → ⊥
no_usage (BatchAsked b) inlets_tell outlets_tell before after (r, same) = batch_usage b r.input r.output r.ended r.answers
no_usage (StdioAsked s) inlets_tell outlets_tell before after r = served_usage r.so.0 r.so.2
no_usage (ServeAsked s) inlets_tell outlets_tell before after r = fleet_usages s inlets_tell outlets_tell before after r
no_usage (ImportAsked i) inlets_tell outlets_tell before after (r, same) = import_usage r.0 r.2
no_usage (DumpAsked w) inlets_tell outlets_tell before after (r, same) = listing_usage r.0 r.2
no_usage (FsckAsked w) inlets_tell outlets_tell before after (r, same) = listing_usage r.0 r.2
no_usage (FixAsked w) inlets_tell outlets_tell before after (r, same) = listing_usage r.0 r.2
no_usage (WeaveAsked w) inlets_tell outlets_tell before after r = r.0
no_usage (PackAsked w) inlets_tell outlets_tell before after (r, same) = listing_usage r.0 r.2
no_usage UnpackAsked inlets_tell outlets_tell before after (r, same) = listing_usage r.0 r.2

no_full : (asked : Asked) (inlets_tell outlets_tell : Type 0) (before after : Devices) → IsShort before.input after.input → Runs (Some asked) inlets_tell outlets_tell before after SessionFull → ⊥
no_full (BatchAsked b) inlets_tell outlets_tell before after short (r, same) = too_long (length r.input) r.answers.1 (short r.input r.bytes.takes)
no_full (StdioAsked s) inlets_tell outlets_tell before after short r = too_long (length r.input) (served_full r.so.0 (length r.input) r.so.2 r.so.1.fills) (short r.input r.takes)
no_full (ServeAsked s) inlets_tell outlets_tell before after short r = fleet_fulls s inlets_tell outlets_tell before after short r
no_full (ImportAsked i) inlets_tell outlets_tell before after short (r, same) = import_full before.input after.input before.output.held after.output.held short i.widths i.compact r.0 r.1 r.2
no_full (DumpAsked w) inlets_tell outlets_tell before after short (r, same) = listing_full before.input after.input before.output.held after.output.held short _ w r.0 r.1 r.2
no_full (FsckAsked w) inlets_tell outlets_tell before after short (r, same) = listing_full before.input after.input before.output.held after.output.held short _ w r.0 r.1 r.2
no_full (FixAsked w) inlets_tell outlets_tell before after short (r, same) = listing_full before.input after.input before.output.held after.output.held short _ w r.0 r.1 r.2
no_full (WeaveAsked w) inlets_tell outlets_tell before after short r = r.0
no_full (PackAsked w) inlets_tell outlets_tell before after short (r, same) = listing_full before.input after.input before.output.held after.output.held short _ w r.0 r.1 r.2
no_full UnpackAsked inlets_tell outlets_tell before after short (r, same) = unpack_full before.input after.input before.output.held after.output.held short r.0 r.1 r.2

pub completes : (inlets_tell outlets_tell : Type 0) → RunCompletes inlets_tell outlets_tell
completes inlets_tell outlets_tell asked before after Done ran none short = tt
completes inlets_tell outlets_tell asked before after Usage ran none short = no_usage asked inlets_tell outlets_tell before after ran.runs
completes inlets_tell outlets_tell asked before after Refused ran none short = tt
completes inlets_tell outlets_tell asked before after ReadFault ran none short = none.input (ran.causes.lone_causes.read_fault refl)
completes inlets_tell outlets_tell asked before after WriteFault ran none short = none.output (ran.causes.lone_causes.write_fault refl)
completes inlets_tell outlets_tell asked before after Memory ran none short = tt
completes inlets_tell outlets_tell asked before after Stopped ran none short = none.halt (ran.causes.lone_causes.stopped refl)
completes inlets_tell outlets_tell asked before after DoorFault ran none short = none.doors (ran.causes.door_fault refl)
completes inlets_tell outlets_tell asked before after SessionFull ran none short = no_full asked inlets_tell outlets_tell before after short ran.runs
completes inlets_tell outlets_tell asked before after ClockFault ran none short = none.clock (ran.causes.lone_causes.clock_fault refl)
