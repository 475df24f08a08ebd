-- What is printed, and its status.
use Rattle.std.proofs.Common.{◌≡◌, ◌≢◌, ⊎_elim, ℕ, ◌<◌, ◌≤◌, Bool, true, false, List, [], ◌∷◌, ◌++◌, refl, sym, ap, subst, ◌∙◌, arith, ◌+◌, add-zero}
use Rattle.std.specs.Prelude.{Option, Some, None, Result, Ok, Err, IfOk, IfErr}
use Rattle.std.proofs.KnownBytes.{Appends-nil, Consumes-nil}
use Rattle.std.proofs.lemmas.Bool.{false≢true}
use Rattle.std.specs.Io.KnownBytes.{Appends}
use Rattle.tsd_base.specs.Points.{DataPoint}
use Rattle.json_reply.specs.Replies.{Group}
use Rattle.query_text.specs.Subs.{sub_of}
use Rattle.query_text.specs.declared.queries.Query.{Query}
use Rattle.query_text.specs.declared.queries.QueryFault.{QueryFault}
use Rattle.query_text.specs.declared.queries.QueryFault.TheVariants.{BadM, UnknownAggregator, RateRefused, BadDownsample, BadFilter, BadTimes, BadQuery, TooManyQueries, OutOfMemory as NoMemory}
use Rattle.query_text.specs.declared.queries.Sub.{Sub}
use Rattle.metric_scan.specs.declared.fault.AskFault.{AskFault}
use Rattle.batch_run.specs.declared.status.Status.{Status}
use Rattle.batch_run.specs.declared.status.Status.TheVariants.{Done, Usage, Refused, ReadFault, WriteFault, Memory, Stopped as Halted, DoorFault, SessionFull, ClockFault}
use Rattle.batch_run.specs.declared.input.BadLine.{BadLine}
use Rattle.batch_run.specs.declared.run_fault.RunFault.{RunFault}
use Rattle.batch_run.specs.declared.run_fault.RunFault.TheVariants as fault
use Rattle.batch_run.specs.declared.output_text.Printed.{Printed}
use Rattle.command_words.specs.CommandWords.{Batch}
use Rattle.batch_job.specs.Pending.{Gathers, SoFar}
use Rattle.batch_job.specs.JobAnswers.{GivesAnswer, answered}
use Rattle.json_reply.specs.declared.reply.Reply.{Reply}
use Rattle.batch_run.specs.Inputs.{IsPointsOf, ReadsInputTo}
use Rattle.batch_job.specs.PointLines.{points_of}
use Rattle.batch_run.specs.Outcomes.{Outcome, outcome, over_input, over_points, refused_line, refused_query, replied, usage_line}
use Rattle.batch_run.specs.OutputText.{Tells, outcome_of}
use Rattle.batch_run.specs.RunFaults.{LineCause, RunCause}
use Rattle.batch_run.proofs.InputEnds.{line_cause}
use Rattle.batch_run.specs.BatchQueries.{GivesQuery, IsQueryOf, query_of}
use Rattle.query_text.specs.QueryFaultTexts.{query_fault_text}
use Rattle.batch_run.specs.BatchRuns.{Decides, ReadsInput, Taken, Works, Answers, RunsPrinted}

-- a status that something printed has
abbrev pub IsPrinted : Status → Type 0
IsPrinted Done = Unit {0}
IsPrinted Usage = Unit {0}
IsPrinted Refused = Unit {0}
IsPrinted ReadFault = ⊥
IsPrinted WriteFault = ⊥
IsPrinted Memory = ⊥
IsPrinted Halted = ⊥
IsPrinted DoorFault = ⊥
IsPrinted SessionFull = ⊥
IsPrinted ClockFault = ⊥

replied_printed : (r : Result (List Group) AskFault) → IsPrinted (replied r).status
replied_printed (Ok groups) = tt
replied_printed (Err fault) = tt

over_points_printed : (batch : Batch) (s : Sub) (r : Result (List DataPoint) (ℕ × List ℕ)) → IsPrinted (over_points batch s r).status
over_points_printed batch s (Ok points) = replied_printed (answered (query_of batch s) s points)
over_points_printed batch s (Err line) = tt

over_input_printed : (batch : Batch) (m : Result Sub QueryFault) (input : List ℕ) → IsPrinted (over_input batch m input).status
over_input_printed batch (Ok s) input = over_points_printed batch s (points_of input)
over_input_printed batch (Err fault) input = tt

outcome_printed : (command : Option Batch) (input : List ℕ) → IsPrinted (outcome command input).status
outcome_printed (Some batch) input = over_input_printed batch (sub_of batch.ms batch.query) input
outcome_printed None input = tt

decided_printed : (command : Option Batch) (input : List ℕ) (ended : Bool) (o : Outcome) → Decides command input ended o → IsPrinted o.status
decided_printed command input true o d = subst (λ (x : Outcome). IsPrinted x.status) d (outcome_printed command input)
decided_printed command input false o d = subst (λ (x : Outcome). IsPrinted x.status) (d []) (outcome_printed command (input ++ []))

printed_answers : (command : Option Batch) (input : List ℕ) (ended : Bool) (output : List ℕ) (status : Status) → IsPrinted status → Decides command input ended (record { status = status; text = output }) → (status ≡ Done → ended ≡ true)
    → Answers command input ended output status
printed_answers command input ended output Done p d e = (d, e refl)
printed_answers command input ended output Usage p d e = d
printed_answers command input ended output Refused p d e = d
printed_answers command input ended output ReadFault p d e = absurd p
printed_answers command input ended output WriteFault p d e = absurd p
printed_answers command input ended output Memory p d e = absurd p
printed_answers command input ended output Halted p d e = absurd p
printed_answers command input ended output DoorFault p d e = absurd p
printed_answers command input ended output SessionFull p d e = absurd p
printed_answers command input ended output ClockFault p d e = absurd p

module _ (command : Option Batch) (taken taken' left left' held held' : Option (List ℕ)) where
  -- all was printed
  pub runs_printed : (printed : Printed) → Works command taken taken' left left' (Ok printed) → Appends held held' printed.text.items → RunsPrinted command taken taken' left left' held held' printed.status
  runs_printed printed w h = record {
    input = w.input;
    ended = w.ended;
    output = printed.text.items;
    bytes = w.bytes;
    gives = h;
    answers = printed_answers command w.input w.ended printed.text.items printed.status (decided_printed command w.input w.ended (outcome_of printed) w.decided.0) w.decided.0 w.decided.1;
  }

  -- a front was printed
  pub runs_front : (printed : Printed) (front rest : List ℕ) → Works command taken taken' left left' (Ok printed) → printed.text.items ≡ front ++ rest → Appends held held' front → RunsPrinted command taken taken' left left' held held' WriteFault
  runs_front printed front rest w is h = record { input = w.input; ended = w.ended; output = front; bytes = w.bytes; gives = h; answers = (outcome_of printed, w.decided.0, (rest, is)) }

  pub printed_status : (printed : Printed) → Works command taken taken' left left' (Ok printed) → IsPrinted printed.status
  printed_status printed w = decided_printed command w.input w.ended (outcome_of printed) w.decided.0

not_done : Done ≡ Refused → ⊥
not_done e = cc

-- ---- before anything was taken
module _ (taken left : Option (List ℕ)) (command : Option Batch) where
  pub nothing_taken : Taken command taken taken left left [] false
  nothing_taken = record {
    takes = Appends-nil taken;
    leaves = Consumes-nil left;
    end = λ e. absurd (false≢true e);
    asked = λ either. ⊎_elim (λ (some : 0 < 0). absurd (omega (arith, some))) (λ (e : false ≡ true). absurd (false≢true e)) either;
    most = omega arith;
    early = λ e. absurd (false≢true e);
  }

  -- there was no memory
  pub no_memory : Works command taken taken left left (Err fault.OutOfMemory)
  no_memory = record { input = []; ended = false; bytes = nothing_taken; decided = tt }

-- ---- the text is no query
module _ (taken left : Option (List ℕ)) (batch : Batch) (printed : Printed) where
  refuses_text : (fault : QueryFault) → sub_of batch.ms batch.query ≡ Err fault → outcome_of printed ≡ refused_query (query_fault_text fault) → Works (Some batch) taken taken left left (Ok printed)
  refuses_text fault asked is = record {
    input = [];
    ended = false;
    bytes = nothing_taken taken left (Some batch);
    decided = (λ more. ap (λ m. over_input batch m more) asked ∙ sym is, λ done. absurd (not_done (sym done ∙ ap (λ (o : Outcome). o.status) is)));
  }

  pub refuses_query : (fault : QueryFault) → fault ≢ NoMemory → GivesQuery (Err fault) batch → outcome_of printed ≡ refused_query (query_fault_text fault) → Works (Some batch) taken taken left left (Ok printed)
  refuses_query (BadM at) told asked is = refuses_text (BadM at) asked is
  refuses_query UnknownAggregator told asked is = refuses_text UnknownAggregator asked is
  refuses_query RateRefused told asked is = refuses_text RateRefused asked is
  refuses_query BadDownsample told asked is = refuses_text BadDownsample asked is
  refuses_query (BadFilter index) told asked is = refuses_text (BadFilter index) asked is
  refuses_query BadTimes told asked is = refuses_text BadTimes asked is
  refuses_query BadQuery told asked is = refuses_text BadQuery asked is
  refuses_query (TooManyQueries count) told asked is = refuses_text (TooManyQueries count) asked is
  refuses_query NoMemory told asked is = absurd (told refl)

-- ---- the input of a good query was read
module _ (query : Query) (batch : Batch) (q : IsQueryOf query batch) (taken taken' left left' : Option (List ℕ)) (g : SoFar) where
  reads_input : ReadsInput (Some batch)
  reads_input = record { batch = batch; command_is = refl; sub = q.sub; query = q.sub_is }

  bytes_taken : {read : Result (Option BadLine) RunFault} (r : ReadsInputTo taken taken' left left' g read) → Taken (Some batch) taken taken' left left' r.input r.ended
  bytes_taken r = record { takes = r.takes; leaves = r.leaves; end = r.end; asked = λ _. reads_input; most = r.most; early = r.early }

  outcome_is : (input : List ℕ) → outcome (Some batch) input ≡ over_points batch q.sub (points_of input)
  outcome_is input = ap (λ m. over_input batch m input) q.sub_is

  decides : (input : List ℕ) (ended : Bool) (points : Result (List DataPoint) (ℕ × List ℕ)) → IsPointsOf input ended points → Decides (Some batch) input ended (over_points batch q.sub points)
  decides input true points are = outcome_is input ∙ ap (over_points batch q.sub) are
  decides input false points are = λ more. outcome_is (input ++ more) ∙ ap (over_points batch q.sub) (are more)

  -- but neither to its end nor to a line that is refused
  pub not_read : (f : RunFault) → ReadsInputTo taken taken' left left' g (Err f) → Works (Some batch) taken taken' left left' (Err f)
  not_read fault.Failed r = record { input = r.input; ended = r.ended; bytes = bytes_taken r; decided = ((reads_input, r.reads.0), r.reads.1) }
  not_read fault.Full r = record { input = r.input; ended = r.ended; bytes = bytes_taken r; decided = ((reads_input, r.reads.0), r.reads.1) }
  not_read fault.OutOfMemory r = record { input = r.input; ended = r.ended; bytes = bytes_taken r; decided = tt }
  not_read fault.Stopped r = record { input = r.input; ended = r.ended; bytes = bytes_taken r; decided = tt }

  -- and there was no memory behind it
  pub not_told : (read : Result (Option BadLine) RunFault) → ReadsInputTo taken taken' left left' g read → Works (Some batch) taken taken' left left' (Err fault.OutOfMemory)
  not_told read r = record { input = r.input; ended = r.ended; bytes = bytes_taken r; decided = tt }

  -- and a line is refused
  pub line_refused : (bad : BadLine) (printed : Printed) → ReadsInputTo taken taken' left left' g (Ok (Some bad)) → outcome_of printed ≡ refused_line bad.number bad.text.items → Works (Some batch) taken taken' left left' (Ok printed)
  line_refused bad printed r is = record {
    input = r.input;
    ended = r.ended;
    bytes = bytes_taken r;
    decided = (
      subst (Decides (Some batch) r.input r.ended) (sym is) (decides r.input r.ended (Err (bad.number, bad.text.items)) r.reads),
      λ done. absurd (not_done (sym done ∙ ap (λ (o : Outcome). o.status) is)),
    );
  }

  -- and the query was answered over its points, or that had no memory, or was stopped
  answered_printed : (printed : Printed) → ReadsInputTo taken taken' left left' g (Ok None) → ((s : Sub) (points : List DataPoint) → query.subs ≡ s ∷ [] → Gathers points g → outcome_of printed ≡ replied (answered query s points))
      → Works (Some batch) taken taken' left left' (Ok printed)
  answered_printed printed r told =
      let points = r.reads.1.0 in
      let is : outcome_of printed ≡ over_points batch q.sub (Ok points) =
      told q.sub points (ap (λ (x : Query). x.subs) q.query_is) r.reads.1.2 ∙ ap (λ (x : Query). replied (answered x q.sub points)) q.query_is in
      record {
        input = r.input;
        ended = r.ended;
        bytes = bytes_taken r;
        decided = (
          subst (λ (e : Bool). Decides (Some batch) r.input e (outcome_of printed)) (sym r.reads.0) (outcome_is r.input ∙ ap (over_points batch q.sub) r.reads.1.1 ∙ sym is),
          λ _. r.reads.0,
        );
      }

  pub query_answered : (result : Result Printed RunFault) (answer : Result Reply AskFault) → ReadsInputTo taken taken' left left' g (Ok None) → ((s : Sub) (points : List DataPoint) → query.subs ≡ s ∷ [] → Gathers points g → GivesAnswer answer (answered query s points))
      → ((told : Result (List Group) AskFault) → GivesAnswer answer told → Tells result told) → Works (Some batch) taken taken' left left' result
  query_answered (Ok printed) answer r gives tells = answered_printed printed r (λ s points one h. tells (answered query s points) (gives s points one h))
  query_answered (Err fault.OutOfMemory) answer r gives tells = not_told (Ok None) r
  query_answered (Err fault.Stopped) answer r gives tells = record { input = r.input; ended = r.ended; bytes = bytes_taken r; decided = tt }
  query_answered (Err fault.Failed) answer r gives tells = absurd (tells (answered query q.sub r.reads.1.0) (gives q.sub r.reads.1.0 (ap (λ (x : Query). x.subs) q.query_is) r.reads.1.2))
  query_answered (Err fault.Full) answer r gives tells = absurd (tells (answered query q.sub r.reads.1.0) (gives q.sub r.reads.1.0 (ap (λ (x : Query). x.subs) q.query_is) r.reads.1.2))

-- ---- the words are no command
abbrev usage_outcome : Outcome
usage_outcome = record { status = Usage; text = usage_line }

module _ (taken left : Option (List ℕ)) where
  pub usage_shown : (result : Result Printed RunFault) → IfOk result (λ printed. outcome_of printed ≡ usage_outcome) → IfErr result (λ f. f ≡ fault.OutOfMemory) → Works None taken taken left left result
  usage_shown (Ok printed) shown fails = record {
    input = [];
    ended = false;
    bytes = nothing_taken taken left None;
    decided = (λ more. sym shown, λ done. absurd (usage_not_done (sym (ap (λ (o : Outcome). o.status) shown) ∙ done)));
  }
    where
      usage_not_done : Usage ≡ Done → ⊥
      usage_not_done e = cc
  usage_shown (Err fault) shown fails = subst (λ (f : RunFault). Works None taken taken left left (Err f)) (sym fails) (no_memory taken left None)

  pub query_refused : (batch : Batch) (why : QueryFault) (result : Result Printed RunFault) → GivesQuery (Err why) batch → IfOk result (λ printed. (outcome_of printed ≡ refused_query (query_fault_text why)) × (why ≢ NoMemory)) → IfErr result (λ f. f ≡ fault.OutOfMemory) → Works (Some batch) taken taken left left result
  query_refused batch why (Ok printed) gives is fails = refuses_query taken left batch printed why is.1 gives is.0
  query_refused batch why (Err error) gives is fails = subst (λ (f : RunFault). Works (Some batch) taken taken left left (Err f)) (sym fails) (no_memory taken left (Some batch))

-- ---- causes
pub memory_cause : (faults faults' stops stops' : ℕ) (result : Result Printed RunFault) → IfErr result (λ f. f ≡ fault.OutOfMemory) → IfErr result (RunCause faults faults' stops stops')
memory_cause faults faults' stops stops' (Ok printed) fails = tt
memory_cause faults faults' stops stops' (Err fault) fails = subst (RunCause faults faults' stops stops') (sym fails) tt

abbrev pub status_for : RunFault → Status
status_for fault.Failed = ReadFault
status_for fault.Full = SessionFull
status_for fault.OutOfMemory = Memory
status_for fault.Stopped = Halted

-- nothing was printed
pub runs_fault : (command : Option Batch) (taken taken' left left' held : Option (List ℕ)) (f : RunFault) → Works command taken taken' left left' (Err f) → RunsPrinted command taken taken' left left' held held (status_for f)
runs_fault command taken taken' left left' held fault.Failed w = record { input = w.input; ended = w.ended; output = []; bytes = w.bytes; gives = Appends-nil held; answers = (w.decided.0, w.decided.1, refl) }
runs_fault command taken taken' left left' held fault.Full w = record { input = w.input; ended = w.ended; output = []; bytes = w.bytes; gives = Appends-nil held; answers = (w.decided.0, w.decided.1, refl) }
runs_fault command taken taken' left left' held fault.OutOfMemory w = record { input = w.input; ended = w.ended; output = []; bytes = w.bytes; gives = Appends-nil held; answers = refl }
runs_fault command taken taken' left left' held fault.Stopped w = record { input = w.input; ended = w.ended; output = []; bytes = w.bytes; gives = Appends-nil held; answers = refl }

-- each cause of a run is one of its halt too, whose count of stops alone rises
pub halt_cause : (faults faults' a b : ℕ) (result : Result Printed RunFault) → IfErr result (RunCause faults faults' (a + 0) (b + 0)) → IfErr result (RunCause faults faults' a b)
halt_cause faults faults' a b result cause = subst (λ (n : ℕ). IfErr result (RunCause faults faults' n b)) (add-zero a) (subst (λ (n : ℕ). IfErr result (RunCause faults faults' (a + 0) n)) (add-zero b) cause)

-- a fault of an answer is none of the source
pub answer_cause : (faults faults' a b c : ℕ) (result : Result Printed RunFault) → a ≤ b → IfErr result (LineCause b c) → IfErr result (RunCause faults faults' a c)
answer_cause faults faults' a b c (Ok printed) later cause = tt
answer_cause faults faults' a b c (Err f) later cause = line_cause faults faults' a b c f later cause
