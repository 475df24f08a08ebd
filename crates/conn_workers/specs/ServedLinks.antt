-- What one worker serves, connection by connection, as a fact of the store's history.
use Rattle.std.specs.Prelude.{◌≡◌, ◌⊎◌, ℕ, ◌^◌, ◌<◌, ◌≤◌, min, ◌-◌, Bool, true, false, ⊤, List, [], ◌∷◌, ◌++◌, length, filter, Option, None, Some, IsSome}
use Rattle.std.specs.Io.KnownBytes.{IsAtEnd}
use Rattle.tsd_doors.specs.Links.{Shut}
use Rattle.cell_model.specs.declared.events.Step.TheVariants.{Open}
use Rattle.cell_model.specs.declared.events.Entry.{Entry}
use Rattle.cell_model.specs.History.{History, len, entry_at, Had}
use Rattle.cell_model.specs.Seen.{Seen, InEach}
use Rattle.step_count.specs.CounterRule.{opening}
use Rattle.point_put.specs.Admissions.{Admission}
use Rattle.tsd_daemon.specs.declared.served.Served.{Served}
use Rattle.tsd_daemon.specs.declared.served.Served.TheVariants as answer
use Rattle.tsd_daemon.specs.ConnClocks.{Gave}
use Rattle.tsd_daemon.specs.ServedConns.{IsServed}

-- a connection that was shut, as its two ends tell of it, and how it ended
abbrev pub ServedLink : Type 0
ServedLink = Shut × Served

-- no name is given an id when a point is put
abbrev pub no_names : Admission
no_names = record { config = record { auto_metric = false; auto_tag_key = false; auto_tag_value = false; appends = false }; patterns = record { metric = None; tag_key = None; tag_value = None } }

-- what connections are served by: for which names ids are given, the moments that the clock had to give at first, and whether their ends tell their bytes
pub record ServingTerms : Type 1 where
  pub admission : Admission
  pub moments : Option (List ℕ)
  pub inlets_tell : Type 0
  pub outlets_tell : Type 0

-- what a clock tells: the moments that it has to give, where it tells them, and how often it failed
pub record ClockTold : Type 0 where
  pub moments : Option (List ℕ)
  pub faults : ℕ

-- each end of this kind tells its bytes
abbrev pub AllTell : {E : Type 0} → (E → Option (List ℕ)) → Type 0
AllTell bytes = (end : _) → IsSome (bytes end)

-- a clock that had these moments to give at first gave these ones, at some time
pub record GaveSome (moments : Option (List ℕ)) (times : List ℕ) : Type 0 where
  pub earlier : List ℕ
  pub before : Option (List ℕ)
  pub after : Option (List ℕ)
  pub until : Gave moments earlier before
  pub then_ : Gave before times after

-- A connection ends so only for its cause, where it gave so many bytes: at its end no byte of it is left, its source or its sink failed, or it was too long. It
-- never ends because a step of its caller was stopped.
abbrev pub HasEndCause : Shut → ℕ → Served → Type 0
HasEndCause shut count answer.End = IsAtEnd shut.left
HasEndCause shut count answer.ReadFault = 0 < shut.source_faults
HasEndCause shut count answer.WriteFault = 0 < shut.sink_faults
HasEndCause shut count answer.SessionFull = count ≡ 2 ^ 40
HasEndCause shut count answer.Stopped = ⊥
HasEndCause shut count other = ⊤

-- One caller of the history served the connection between two lengths, to its end, with the bytes that were taken of it and those that were given to it, and with
-- moments that its clock gave. What it was asked and how it was answered is what IsServed says.
pub record LinkServed (terms : ServingTerms) (h : History) (caller n n2 : ℕ) (link : ServedLink) : Type 0 where
  pub input : List ℕ
  pub output : List ℕ
  pub times : List ℕ
  pub taken : terms.inlets_tell → link.0.taken ≡ Some input
  pub given : terms.outlets_tell → link.0.held ≡ Some output
  pub clock : GaveSome terms.moments times
  pub served : IsServed terms.admission h caller n n2 input output times link.1
  pub cause : HasEndCause link.0 (length input) link.1

-- at places above the first length up to the second the caller made no entry
abbrev pub MadeNone : History → ℕ → ℕ → ℕ → Type 0
MadeNone h caller from to = (place : ℕ) (e : Entry) → from < place → place ≤ to → e.caller ≡ caller → entry_at h place ≡ Some e → ⊥

-- up to this length the caller made no entry but its opening
abbrev pub MadeOpeningAlone : History → ℕ → ℕ → Type 0
MadeOpeningAlone h caller last = (place : ℕ) (e : Entry) → place ≤ last → e.caller ≡ caller → entry_at h place ≡ Some e → e.step ≡ Open

-- One caller of the history served these connections, one after the other: each from a length on that is at or above the one up to which it served the connection
-- before it, and the last of them up to no more than this one. So no two of them share a place of the history. Up to this length it made no entry but its opening and
-- those within the lengths of a connection.
pub data ServedInTurn (terms : ServingTerms) (h : History) (caller : ℕ) : List ServedLink → ℕ → Type 0 where
  none_yet : (last : ℕ) → MadeOpeningAlone h caller last → ServedInTurn terms h caller [] last
  then_served : {links : List ServedLink} {before n n2 last : ℕ} (link : ServedLink) → ServedInTurn terms h caller links before → before ≤ n → n ≤ n2 → n2 ≤ last
      → MadeNone h caller before n → MadeNone h caller n2 last → LinkServed terms h caller n n2 link → ServedInTurn terms h caller (links ++ link ∷ []) last

-- the place is within the lengths of one of the connections that were served so
abbrev pub IsWithin : {terms : ServingTerms} {h : History} {caller : ℕ} {links : List ServedLink} {last : ℕ} → ServedInTurn terms h caller links last → ℕ → Type 0
IsWithin (none_yet last alone) place = ⊥
IsWithin (then_served {n = n} {n2 = n2} link earlier up1 up2 up3 none1 none2 served) place = IsWithin earlier place ⊎ ((n < place) × (place ≤ n2))

-- One caller opened in the history, and up to this length, which is no more than the history's, it served these connections in turn and made no other entry.
pub record OnlyServed (terms : ServingTerms) (h : History) (caller last : ℕ) (links : List ServedLink) : Type 0 where
  pub opened : Had h (opening caller)
  pub within : last ≤ len h
  pub in_turn : ServedInTurn terms h caller links last

-- how many of the connections ended because the clock failed
abbrev pub is_clock_fault : Served → Bool
is_clock_fault answer.ClockFault = true
is_clock_fault other = false

abbrev pub clock_fault_count : List ServedLink → ℕ
clock_fault_count links = length (filter (λ (l : ServedLink). is_clock_fault l.1) links)

-- no more connections than this ended because the clock failed, unless the count stands at the last u64
abbrev pub ClockFaultsWithin : List ServedLink → ℕ → Type 0
ClockFaultsWithin links faults = min (clock_fault_count links) (2 ^ 64 - 1) ≤ faults

-- What a worker promises of the connections that it served, where it gives ids by this admission, its caller has seen this, and its clock tells this: it served them
-- in turn and made no other entry, in each lawful history that fits.
pub record WorkerServed (terms : ServingTerms) (by : Admission) (s : Seen) (clock : ClockTold) (links : List ServedLink) : Type 0 where
  pub same : by ≡ terms.admission
  pub served : InEach s (λ h. OnlyServed terms h s.caller s.length links)
  pub times : List ℕ
  pub ticks : Gave terms.moments times clock.moments
  pub clock_faults : ClockFaultsWithin links clock.faults
