-- What is told of an import that ended before its input did.
use Rattle.std.specs.Prelude.{◌≡◌, ℕ, List, Option}
use Rattle.std.specs.Io.KnownBytes.{Appends}
use Rattle.listing_print.specs.GivenTexts.{GaveFront}
use Rattle.point_import.specs.ImportFaults.{line_fault_text}
use Rattle.point_import.specs.declared.import_fault.LineFault.{LineFault}
use Rattle.point_import.specs.declared.import_fault.ImportFault.{ImportFault}
use Rattle.point_import.specs.declared.import_fault.ImportFault.TheVariants as fault
use Rattle.import_job.specs.declared.import_end.ImportEnd.{ImportEnd}
use Rattle.import_job.specs.declared.import_end.ImportEnd.TheVariants.{Refused, ReadFault, WriteFault, OutOfMemory, Stopped, SessionFull}
use Rattle.import_job.specs.ImportAnswers.{refused_line}

-- the refusal was told, or a front of it where the sink failed, or nothing where there was no memory
abbrev pub GivesRefusal : ℕ → LineFault → (held held' : Option (List ℕ)) → ImportEnd → Type 0
GivesRefusal number fault held held' Refused = Appends held held' (refused_line number (line_fault_text fault))
GivesRefusal number fault held held' WriteFault = GaveFront held held' (refused_line number (line_fault_text fault))
GivesRefusal number fault held held' OutOfMemory = held' ≡ held
GivesRefusal number fault held held' _ = ⊥

-- of any other fault nothing is told
abbrev pub TellsFault : ImportFault → (held held' : Option (List ℕ)) → ImportEnd → Type 0
TellsFault (fault.Line number fault) held held' end = GivesRefusal number fault held held' end
TellsFault fault.ReadFault held held' end = (end ≡ ReadFault) × (held' ≡ held)
TellsFault fault.SessionFull held held' end = (end ≡ SessionFull) × (held' ≡ held)
TellsFault fault.OutOfMemory held held' end = (end ≡ OutOfMemory) × (held' ≡ held)
TellsFault fault.Stopped held held' end = (end ≡ Stopped) × (held' ≡ held)
