-- What `run` promises.
use Rattle.std.specs.Prelude.{◌≡◌, ℕ, Bool, true, false, List, Option, None, Some}
use Rattle.std.specs.Io.KnownBytes.{Appends}
use Rattle.batch_run.specs.declared.status.Status.{Status}
use Rattle.batch_run.specs.declared.status.Status.TheVariants.{Done, Refused, ReadFault, WriteFault, Memory, Stopped as Halted, SessionFull, ClockFault}
use Rattle.point_put.specs.Admissions.{Admission, admission}
use Rattle.tsd_daemon.specs.declared.served.Served.{Served}
use Rattle.tsd_daemon.specs.declared.served.Served.TheVariants as served
use Rattle.tsd_daemon.specs.ServedConns.{Passes}
use Rattle.stdio_job.specs.LoneConnections.{ServesAlone}
use Rattle.command_words.specs.CommandWords.{Import, NameOptions, Stdio, Asked}
use Rattle.command_words.specs.CommandWords.Asked.{BatchAsked, StdioAsked, ServeAsked, ImportAsked, DumpAsked, FsckAsked, FixAsked, WeaveAsked, PackAsked, UnpackAsked}
use Rattle.row_key.specs.declared.widths.Widths.{Widths}
use Rattle.cell_listing.specs.ListedLines.{ListingRead}
use Rattle.import_job.specs.declared.import_end.ImportEnd.{ImportEnd}
use Rattle.import_job.specs.declared.import_end.ImportEnd.TheVariants as imported
use Rattle.import_job.specs.ImportAnswers.{PassesImport}
use Rattle.listing_job.specs.declared.listing_end.ListingEnd.{ListingEnd}
use Rattle.listing_job.specs.declared.listing_end.ListingEnd.TheVariants as listing
use Rattle.listing_job.specs.ListingJobs.{Checked, Dumped, Fixed, OverListing, Told}
use Rattle.image_job.specs.ImageJobs.{OverImage, Packed, Unpacked}
use Rattle.listing_print.specs.GivenTexts.{GaveFront}
use Rattle.weave_script.specs.declared.script_counts.Woven.{Woven}
use Rattle.weave_script.specs.WovenCounts.{CountsWoven, woven_text}
use Rattle.batch_run.specs.BatchRuns.{RunsPrinted}
use Rattle.tsd_run.specs.RunDevices.{LoneDevices, conn_told}

-- Of each status how the serving of a connection ended.
abbrev pub HasStatus : Served → Status → Type 0
HasStatus served.End status = status ≡ Done
HasStatus served.Exit status = status ≡ Done
HasStatus served.Die status = status ≡ Done
HasStatus served.Closed status = status ≡ Done
HasStatus served.ReadFault status = status ≡ ReadFault
HasStatus served.WriteFault status = status ≡ WriteFault
HasStatus served.ClockFault status = status ≡ ClockFault
HasStatus served.Stopped status = status ≡ Halted
HasStatus served.SessionFull status = status ≡ SessionFull
HasStatus served.OutOfMemory status = status ≡ Memory

-- of which kinds names that have no id are given one, and how these must begin; and whether points are appended
abbrev pub admission_of : NameOptions → Bool → Admission
admission_of s appends = admission (record { auto_metric = s.auto_metric; auto_tag_key = s.auto_tag_key; auto_tag_value = s.auto_tag_value; appends = appends }) s.patterns

-- One connection was served over an empty store of the widths that are asked for, which nobody else steps: these bytes were taken and these given, what is asked to be published among them, the clock
-- gave these moments, and the status is that of its end.
abbrev pub ServesStdio : Stdio → Status → List ℕ → List ℕ → List ℕ → Type 0
ServesStdio s status input output times = (result : Served) × ServesAlone s.widths (admission_of s.names s.appends) s.publish result input output times × HasStatus result status

-- the words ask for a connection
abbrev pub is_stdio : Option Asked → Bool
is_stdio (Some (StdioAsked s)) = true
is_stdio asked = false

-- of each end of a job on a listing the status
abbrev pub listing_status : ListingEnd → Status
listing_status listing.Done = Done
listing_status listing.Refused = Refused
listing_status listing.ReadFault = ReadFault
listing_status listing.WriteFault = WriteFault
listing_status listing.OutOfMemory = Memory
listing_status listing.SessionFull = SessionFull

-- This was told of the listing, and the status is that of how the job ended.
abbrev pub RunsOver : (ListingRead → Told → Type 0) → Widths → (taken taken' left left' held held' : Option (List ℕ)) → Status → Type 0
RunsOver Tells widths taken taken' left left' held held' status = (end : ListingEnd) × OverListing Tells widths taken taken' left left' held held' end × (status ≡ listing_status end)

-- This was told of the listing of an image, and the status is that of how the job ended.
abbrev pub RunsUnpack : (taken taken' left left' held held' : Option (List ℕ)) → Status → Type 0
RunsUnpack taken taken' left left' held held' status = (end : ListingEnd) × OverImage Unpacked taken taken' left left' held held' end × (status ≡ listing_status end)

-- of each end of an import the status
abbrev pub import_status : ImportEnd → Status
import_status imported.Done = Done
import_status imported.Refused = Refused
import_status imported.ReadFault = ReadFault
import_status imported.WriteFault = WriteFault
import_status imported.OutOfMemory = Memory
import_status imported.Stopped = Halted
import_status imported.SessionFull = SessionFull

-- The listing of the points was given, or the first line that is refused, and the status is that of how the job ended.
abbrev pub RunsImport : Import → (taken taken' left left' held held' : Option (List ℕ)) → Status → Type 0
RunsImport i taken taken' left left' held held' status = (end : ImportEnd) × PassesImport i.widths i.compact taken taken' left left' held held' end × (status ≡ import_status end)

-- the summary of a woven history was given, or a front of it where the sink failed
abbrev pub Weaves : ℕ → (held held' : Option (List ℕ)) → Status → Type 0
Weaves count held held' Done = (woven : Woven) × CountsWoven count woven × Appends held held' (woven_text woven)
Weaves count held held' WriteFault = (woven : Woven) × CountsWoven count woven × GaveFront held held' (woven_text woven)
Weaves count held held' Memory = held' ≡ held
Weaves count held held' _ = ⊥

-- What a command that waits for nobody took and gave, the moments that its clock gives before and after, and its status. Words that are no command print the usage line, and so do those of a fleet, which waits for others.
abbrev pub RunsAlone : Option Asked → (before after : LoneDevices) → Status → Type 0
RunsAlone (Some (BatchAsked batch)) before after status = RunsPrinted (Some batch) before.input.taken after.input.taken before.input.left after.input.left before.output.held after.output.held status × (after.clock.moments ≡ before.clock.moments)
RunsAlone (Some (StdioAsked s)) before after status = Passes (conn_told before) (conn_told after) (ServesStdio s status)
RunsAlone (Some (ServeAsked s)) before after status = RunsPrinted None before.input.taken after.input.taken before.input.left after.input.left before.output.held after.output.held status × (after.clock.moments ≡ before.clock.moments)
RunsAlone (Some (ImportAsked i)) before after status = RunsImport i before.input.taken after.input.taken before.input.left after.input.left before.output.held after.output.held status × (after.clock.moments ≡ before.clock.moments)
RunsAlone (Some (DumpAsked widths)) before after status = RunsOver Dumped widths before.input.taken after.input.taken before.input.left after.input.left before.output.held after.output.held status × (after.clock.moments ≡ before.clock.moments)
RunsAlone (Some (FsckAsked widths)) before after status = RunsOver Checked widths before.input.taken after.input.taken before.input.left after.input.left before.output.held after.output.held status × (after.clock.moments ≡ before.clock.moments)
RunsAlone (Some (FixAsked widths)) before after status = RunsOver Fixed widths before.input.taken after.input.taken before.input.left after.input.left before.output.held after.output.held status × (after.clock.moments ≡ before.clock.moments)
RunsAlone (Some (WeaveAsked w)) before after status = Weaves w.count before.output.held after.output.held status × (after.input.taken ≡ before.input.taken) × (after.input.left ≡ before.input.left) × (after.clock.moments ≡ before.clock.moments)
RunsAlone (Some (PackAsked widths)) before after status = RunsOver Packed widths before.input.taken after.input.taken before.input.left after.input.left before.output.held after.output.held status × (after.clock.moments ≡ before.clock.moments)
RunsAlone (Some UnpackAsked) before after status = RunsUnpack before.input.taken after.input.taken before.input.left after.input.left before.output.held after.output.held status × (after.clock.moments ≡ before.clock.moments)
RunsAlone None before after status = RunsPrinted None before.input.taken after.input.taken before.input.left after.input.left before.output.held after.output.held status × (after.clock.moments ≡ before.clock.moments)
