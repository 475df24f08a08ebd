-- Connections that are served as the words say, and runs whose words, or whose rule for new names, had no memory.
use Rattle.std.proofs.Common.{◌≡◌, inl, ℕ, Bool, List, [], refl, subst, ap, ◌∙◌}
use Rattle.std.specs.Prelude.{Option, None, Some}
use Rattle.std.proofs.KnownBytes.{Appends-nil, Consumes-nil}
use Rattle.command_words.specs.CommandWords.{Batch, NameOptions, Stdio, Asked}
use Rattle.command_words.specs.CommandWords.Asked.{BatchAsked, StdioAsked, ServeAsked, ImportAsked, DumpAsked, FsckAsked, FixAsked, WeaveAsked, PackAsked, UnpackAsked}
use Rattle.tsd_hooks.specs.declared.name_patterns.Patterns.{Patterns}
use Rattle.point_put.specs.declared.config.Config.{Config}
use Rattle.point_put.specs.Admissions.{Admission, admission}
use Rattle.tsd_daemon.specs.declared.served.Served.{Served}
use Rattle.tsd_daemon.specs.ServedConns.{ConnTold, Passes}
use Rattle.stdio_job.specs.LoneConnections.{ServesAlone}
use Rattle.tsd_daemon.specs.declared.served.Served.TheVariants as served
use Rattle.stdio_job.proofs.CallerLemmas.{none_alone}
use Rattle.row_key.specs.declared.widths.Widths.{Widths}
use Rattle.cell_listing.specs.ListedLines.{ListingRead}
use Rattle.listing_job.specs.declared.listing_end.ListingEnd.TheVariants as listing
use Rattle.listing_job.specs.ListingJobs.{Checked, Dumped, Fixed, Told}
use Rattle.image_job.specs.ImageJobs.{Packed}
use Rattle.import_job.specs.declared.import_end.ImportEnd.TheVariants as imported
use Rattle.import_job.proofs.CallerLemmas.{not_begun}
use Rattle.batch_run.specs.declared.status.Status.{Status}
use Rattle.batch_run.specs.declared.status.Status.TheVariants.{Memory}
use Rattle.tsd_run.specs.RunDevices.{LoneDevices, conn_told}
use Rattle.batch_run.specs.BatchRuns.{RunsPrinted}
use Rattle.tsd_run.specs.Runs.{HasStatus, RunsAlone, RunsOver, RunsUnpack, ServesStdio, admission_of}
use Rattle.batch_run.proofs.CallerLemmas.{unread_printed}

-- of these kinds and with these patterns names are given ids as the words say
pub admitted : (s : NameOptions) (appends : Bool) (config : Config) (patterns : Patterns) → config ≡ (admission_of s appends).config → patterns ≡ s.patterns → admission config patterns ≡ admission_of s appends
admitted s appends config patterns is same = ap (λ (c : Config). admission c patterns) is ∙ ap (admission (admission_of s appends).config) same

-- a connection was served as the words say
pub served_by : (s : Stdio) (c : Admission) (before after : ConnTold) (result : Served) (status : Status) → c ≡ admission_of s.names s.appends → HasStatus result status
    → Passes before after (ServesAlone s.widths c s.publish result) → Passes before after (ServesStdio s status)
served_by s c before after result status is how p = record {
  input = p.input;
  output = p.output;
  times = p.times;
  takes = p.takes;
  leaves = p.leaves;
  gives = p.gives;
  ticks = p.ticks;
  so = (result, subst (λ (a : Admission). ServesAlone s.widths a s.publish result p.input p.output p.times) is p.so, how);
}

-- there was no memory to serve a connection
pub unserved : (told : ConnTold) (s : Stdio) (status : Status) → status ≡ Memory → Passes told told (ServesStdio s status)
unserved told s status is = served_by s (admission_of s.names s.appends) told told served.OutOfMemory status refl is (none_alone s.widths (admission_of s.names s.appends) s.publish told served.OutOfMemory refl)

module _ (taken left held : Option (List ℕ)) where
  -- nor to read a listing
  unread_listing : (Tells : ListingRead → Told → Type 0) (widths : Widths) → RunsOver Tells widths taken taken left left held held Memory
  unread_listing Tells widths = (listing.OutOfMemory, record { bytes = []; takes = Appends-nil taken; leaves = Consumes-nil left; ends = inl refl }, refl)

  -- nor to read an image
  unread_image : RunsUnpack taken taken left left held held Memory
  unread_image = (listing.OutOfMemory, record { bytes = []; takes = Appends-nil taken; leaves = Consumes-nil left; ends = inl refl }, refl)

module _ (d : LoneDevices) where
  printed_none : (batch : Option Batch) → RunsPrinted batch d.input.taken d.input.taken d.input.left d.input.left d.output.held d.output.held Memory
  printed_none batch = unread_printed d.input.taken d.input.left d.output.held batch

  listing_none : (Tells : ListingRead → Told → Type 0) (widths : Widths) → RunsOver Tells widths d.input.taken d.input.taken d.input.left d.input.left d.output.held d.output.held Memory
  listing_none Tells widths = unread_listing d.input.taken d.input.left d.output.held Tells widths

  -- there was no memory for the words
  pub runs_unread : (asked : Option Asked) → RunsAlone asked d d Memory
  runs_unread (Some (BatchAsked batch)) = (printed_none (Some batch), refl)
  runs_unread (Some (StdioAsked s)) = unserved (conn_told d) s Memory refl
  runs_unread (Some (ServeAsked s)) = (printed_none None, refl)
  runs_unread (Some (ImportAsked i)) = ((imported.OutOfMemory, not_begun i.widths i.compact d.input.taken d.input.left d.output.held, refl), refl)
  runs_unread (Some (DumpAsked widths)) = (listing_none Dumped widths, refl)
  runs_unread (Some (FsckAsked widths)) = (listing_none Checked widths, refl)
  runs_unread (Some (FixAsked widths)) = (listing_none Fixed widths, refl)
  runs_unread (Some (WeaveAsked w)) = (refl, refl, refl, refl)
  runs_unread (Some (PackAsked widths)) = (listing_none Packed widths, refl)
  runs_unread (Some UnpackAsked) = (unread_image d.input.taken d.input.left d.output.held, refl)
  runs_unread None = (printed_none None, refl)
