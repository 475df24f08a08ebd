-- The causes of an import's end.
use Rattle.std.proofs.Common.{◌≡◌, ℕ, ◌+◌, ◌≤◌, Option, List, sym, subst, ◌∙◌, add-zero, arith}
use Rattle.tsd_io.specs.Causes.{Rose}
use Rattle.point_import.specs.ImportFaults.{ImportCause}
use Rattle.point_import.specs.declared.import_fault.LineFault.{LineFault}
use Rattle.point_import.specs.declared.import_fault.ImportFault.{ImportFault}
use Rattle.point_import.specs.declared.import_fault.ImportFault.TheVariants as fault
use Rattle.import_job.specs.declared.import_end.ImportEnd.{ImportEnd}
use Rattle.import_job.specs.declared.import_end.ImportEnd.TheVariants.{ReadFault, OutOfMemory, Stopped, SessionFull}
use Rattle.import_job.specs.Refusals.{GivesRefusal, TellsFault}

module _ (held held' : Option (List ℕ)) (reads reads' a b : ℕ) where
  refused_no_read : (number : ℕ) (line : LineFault) (end : ImportEnd) → GivesRefusal number line held held' end → end ≡ ReadFault → ⊥
  refused_no_read number line end gives is = subst (GivesRefusal number line held held') is gives

  refused_no_stop : (number : ℕ) (line : LineFault) (end : ImportEnd) → GivesRefusal number line held held' end → end ≡ Stopped → ⊥
  refused_no_stop number line end gives is = subst (GivesRefusal number line held held') is gives

  -- a source that failed
  pub read_cause : (f : ImportFault) (end : ImportEnd) → TellsFault f held held' end → ImportCause reads reads' (a + 0) (b + 0) f → end ≡ ReadFault → Rose reads reads'
  read_cause (fault.Line number line) end tells cause is = absurd (refused_no_read number line end tells is)
  read_cause fault.ReadFault end tells cause is = cause
  read_cause fault.SessionFull end tells cause is = let e : SessionFull ≡ ReadFault = sym tells.0 ∙ is in absurd cc
  read_cause fault.OutOfMemory end tells cause is = let e : OutOfMemory ≡ ReadFault = sym tells.0 ∙ is in absurd cc
  read_cause fault.Stopped end tells cause is = let e : Stopped ≡ ReadFault = sym tells.0 ∙ is in absurd cc

  -- a step that was stopped
  pub stop_cause : (f : ImportFault) (end : ImportEnd) → TellsFault f held held' end → ImportCause reads reads' (a + 0) (b + 0) f → end ≡ Stopped → Rose a b
  stop_cause (fault.Line number line) end tells cause is = absurd (refused_no_stop number line end tells is)
  stop_cause fault.ReadFault end tells cause is = let e : ReadFault ≡ Stopped = sym tells.0 ∙ is in absurd cc
  stop_cause fault.SessionFull end tells cause is = let e : SessionFull ≡ Stopped = sym tells.0 ∙ is in absurd cc
  stop_cause fault.OutOfMemory end tells cause is = let e : OutOfMemory ≡ Stopped = sym tells.0 ∙ is in absurd cc
  stop_cause fault.Stopped end tells cause is = subst (λ (n : ℕ). Rose n b) (add-zero a) (subst (λ (n : ℕ). Rose (a + 0) n) (add-zero b) cause)

pub rose_later : (a b d : ℕ) → a ≤ b → Rose b d → Rose a d
rose_later a b d le r = omega (arith, le, r)
