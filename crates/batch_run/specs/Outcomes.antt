-- What a run of the program prints and answers, a function of its words and its input.
use Rattle.std.specs.Prelude.{ℕ, List, ◌++◌, codes, decimal, Option, None, Some, Result, Ok, Err}
use Rattle.tsd_base.specs.Points.{DataPoint}
use Rattle.query_text.specs.Subs.{sub_of}
use Rattle.query_text.specs.declared.queries.QueryFault.{QueryFault}
use Rattle.query_text.specs.declared.queries.Sub.{Sub}
use Rattle.json_reply.specs.Replies.{Group, text_of}
use Rattle.metric_scan.specs.declared.fault.AskFault.{AskFault}
use Rattle.batch_run.specs.declared.status.Status.{Status}
use Rattle.batch_run.specs.declared.status.Status.TheVariants.{Done, Usage, Refused}
use Rattle.command_words.specs.CommandWords.{Batch}
use Rattle.batch_job.specs.JobAnswers.{answered}
use Rattle.batch_job.specs.PointLines.{points_of}
use Rattle.batch_run.specs.BatchQueries.{query_of}
use Rattle.query_text.specs.QueryFaultTexts.{query_fault_text}
use Rattle.metric_scan.specs.AskFaultTexts.{ask_fault_text}

abbrev pub usage_line : List ℕ
usage_line = codes "usage: tsd batch START END M | stdio | serve PORT | import | dump | fsck | fix | weave SEED N | pack | unpack\n"

pub record Outcome : Type 0 where
  pub status : Status
  pub text : List ℕ

-- a refusal is one line
abbrev pub refused : List ℕ → Outcome
refused text = record { status = Refused; text = text ++ codes "\n" }

abbrev pub refused_line : ℕ → List ℕ → Outcome
refused_line number text = refused (codes "line " ++ decimal number ++ codes ": " ++ text)

abbrev pub refused_query : List ℕ → Outcome
refused_query text = refused (codes "query: " ++ text)

abbrev pub replied : Result (List Group) AskFault → Outcome
replied (Ok groups) = record { status = Done; text = text_of groups ++ codes "\n" }
replied (Err fault) = refused_query (ask_fault_text fault)

abbrev pub over_points : Batch → Sub → Result (List DataPoint) (ℕ × List ℕ) → Outcome
over_points batch s (Ok points) = replied (answered (query_of batch s) s points)
over_points batch s (Err line) = refused_line line.0 line.1

abbrev pub over_input : Batch → Result Sub QueryFault → List ℕ → Outcome
over_input batch (Ok s) input = over_points batch s (points_of input)
over_input batch (Err fault) input = refused_query (query_fault_text fault)

-- the words come first, then the query, then the lines, and then the answer
abbrev pub outcome : Option Batch → List ℕ → Outcome
outcome (Some batch) input = over_input batch (sub_of batch.ms batch.query) input
outcome None input = record { status = Usage; text = usage_line }
