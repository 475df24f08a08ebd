-- What callers know of the run of a batch.
use Rattle.std.proofs.Common.{◌≡◌, ℕ, Bool, true, false, List, [], ◌++◌, refl, ap}
use Rattle.std.specs.Prelude.{Option, Some, Result, Ok, Err}
use Rattle.std.proofs.KnownBytes.{Appends-nil}
use Rattle.tsd_base.specs.Points.{DataPoint}
use Rattle.query_text.specs.Subs.{sub_of}
use Rattle.query_text.specs.declared.queries.QueryFault.{QueryFault}
use Rattle.query_text.specs.declared.queries.Sub.{Sub}
use Rattle.json_reply.specs.Replies.{Group}
use Rattle.metric_scan.specs.declared.fault.AskFault.{AskFault}
use Rattle.command_words.specs.CommandWords.{Batch}
use Rattle.batch_job.specs.JobAnswers.{answered}
use Rattle.batch_job.specs.PointLines.{points_of}
use Rattle.batch_run.specs.declared.status.Status.TheVariants.{Usage, Memory}
use Rattle.batch_run.specs.BatchQueries.{query_of}
use Rattle.batch_run.specs.BatchRuns.{Decides, RunsPrinted}
use Rattle.batch_run.specs.Outcomes.{Outcome, outcome, over_input, over_points, replied}
use Rattle.batch_run.proofs.RunLemmas.{nothing_taken}

-- there was no memory for the words
pub unread_printed : (taken left held : Option (List ℕ)) (batch : Option Batch) → RunsPrinted batch taken taken left left held held Memory
unread_printed taken left held batch = record { input = []; ended = false; output = []; bytes = nothing_taken taken left batch; gives = Appends-nil held; answers = refl }

-- ---- the outcome of a batch is no usage

replied_usage : (r : Result (List Group) AskFault) → (replied r).status ≡ Usage → ⊥
replied_usage (Ok groups) is = cc
replied_usage (Err why) is = cc

points_usage : (b : Batch) (s : Sub) (r : Result (List DataPoint) (ℕ × List ℕ)) → (over_points b s r).status ≡ Usage → ⊥
points_usage b s (Ok points) is = replied_usage (answered (query_of b s) s points) is
points_usage b s (Err line) is = cc

input_usage : (b : Batch) (r : Result Sub QueryFault) (input : List ℕ) → (over_input b r input).status ≡ Usage → ⊥
input_usage b (Ok s) input is = points_usage b s (points_of input) is
input_usage b (Err why) input is = cc

pub batch_usage : (b : Batch) (input output : List ℕ) (ended : Bool) → Decides (Some b) input ended (record { status = Usage; text = output }) → ⊥
batch_usage b input output true is = input_usage b (sub_of b.ms b.query) input (ap (λ (o : Outcome). o.status) is)
batch_usage b input output false is = input_usage b (sub_of b.ms b.query) (input ++ []) (ap (λ (o : Outcome). o.status) (is []))
