-- The headline of a batch.
use Rattle.std.specs.Prelude.{◌≡◌, ◌↔◌, ℕ, Contains, List, map, Result, Ok, Err}
use Rattle.tsd_base.specs.Points.{DataPoint}
use Rattle.cell_model.specs.Readings.{Reading, OneValued, reading_of}
use Rattle.query_text.specs.Subs.{sub_of}
use Rattle.query_text.specs.declared.queries.Query.{Query}
use Rattle.query_text.specs.declared.queries.Sub.{Sub}
use Rattle.json_reply.specs.Replies.{Group}
use Rattle.row_scan.specs.RowReadings.{Chosen}
use Rattle.query_run.specs.AskedQueries.{wanted}
use Rattle.series_groups.specs.QueryAnswers.{answer}
use Rattle.metric_scan.specs.declared.fault.AskFault.{AskFault}
use Rattle.metric_scan.specs.declared.fault.AskFault.TheVariants.{Duplicate}
use Rattle.command_words.specs.CommandWords.{Batch}
use Rattle.batch_job.specs.PointLines.{points_of}
use Rattle.batch_run.specs.declared.status.Status.{Status}
use Rattle.batch_run.specs.declared.status.Status.TheVariants.{Done, Refused}
use Rattle.batch_run.specs.BatchQueries.{query_of}
use Rattle.batch_run.specs.Outcomes.{replied}

-- the readings of points
abbrev pub reads_in : List DataPoint → Reading → Type 0
reads_in points r = Contains (map reading_of points) r

-- The groups are the plain aggregation of points whose readings are those of the lines that the sub query wants, or there are none for another cause than two values at one time.
abbrev pub IsPlainOver : Query → Sub → List DataPoint → Result (List Group) AskFault → Type 0
IsPlainOver q s lines (Ok groups) = (points : List DataPoint) × ((r : Reading) → reads_in points r ↔ Chosen (wanted q s) (reads_in lines) r) × (answer q s points ≡ Ok groups)
IsPlainOver q s lines (Err (Duplicate time a b)) = ⊥
IsPlainOver q s lines (Err refusal) = Unit {0}

-- a run that ends so prints the text of this
abbrev pub PrintsPlainly : Status → List ℕ → (Result (List Group) AskFault → Type 0) → Type 0
PrintsPlainly Done output P = (result : Result (List Group) AskFault) × P result × (replied result ≡ record { status = Done; text = output })
PrintsPlainly Refused output P = (result : Result (List Group) AskFault) × P result × (replied result ≡ record { status = Refused; text = output })
PrintsPlainly other output P = Unit {0}

-- where the input's lines are points, and no series that the sub query wants has two values at one time, the output is the plain aggregation of these
abbrev pub BatchHeadline : Batch → Status → List ℕ → List ℕ → List ℕ → Type 0
BatchHeadline batch status input output times =
    (s : Sub) (lines : List DataPoint) → sub_of batch.ms batch.query ≡ Ok s → points_of input ≡ Ok lines → OneValued (Chosen (wanted (query_of batch s) s) (reads_in lines)) → PrintsPlainly status output (IsPlainOver (query_of batch s) s lines)
