-- What a caller's proof cites of queries.
use Rattle.std.proofs.Common.{sym, subst}
use Rattle.std.specs.Prelude.{Result, Ok, Err}
use Rattle.cell_model.specs.Seen.{Seen, InEach}
use Rattle.cell_model.specs.Deeds.{Since}
use Rattle.json_reply.specs.declared.reply.Reply.{Reply}
use Rattle.query_text.specs.declared.queries.Query.{Query}
use Rattle.metric_scan.specs.declared.fault.AskFault.{AskFault}
use Rattle.metric_scan.specs.Parts.{AreQuerySteps}
use Rattle.query_run.specs.AskedQueries.{QuerySays, QueryAsked, plain_result}
-- a conflict is of two readings that were accepted, and so of a series with two values at one time
pub use Rattle.query_run.proofs.Outcomes.{StandIn, no_conflict_of}
-- an id that was seen is seen later
pub use Rattle.metric_scan.proofs.NameIds.{id_later}
-- names that were resolved behind others, or weren't
pub use Rattle.metric_scan.proofs.NameIds.{resolved_none, resolved_joined, unresolved_wider, unresolved_behind}
-- those before the first unknown one are resolved in each history
pub use Rattle.query_run.proofs.OneSub.{first_unknown}
-- reads are steps of a query, and two lists of them are one
pub use Rattle.metric_scan.proofs.WalkSteps.{steps_joined, reads_steps}
pub use Rattle.metric_scan.proofs.NameReads.{no_reads, one_read, reads_joined}
-- a fault is handed on
pub use Rattle.metric_scan.proofs.NameReads.{passed_on}
-- offsets are within the hour; values without a conflict are one
pub use Rattle.query_run.proofs.RowPoints.{are_offsets, one_value}

-- what is said of a query by what its caller saw before and after it holds of each history that is possible then
pub query_asked : (q : Query) (old new : Seen) (result : Result Reply AskFault) → QuerySays q old result new → Since old new × InEach new (λ h. QueryAsked h old.caller old.length q (plain_result result) new.length)
query_asked q old new (Ok reply) says = (
  says.made.since,
  λ h lawful fits. record {
    parts = says.parts;
    made = says.made.made h fits;
    steps = subst AreQuerySteps (sym (says.made.made h fits)) says.steps;
    answers = says.answers h lawful fits;
  },
)
query_asked q old new (Err fault) says = (
  says.made.since,
  λ h lawful fits. record {
    done = says.done;
    sub = says.sub;
    rest = says.rest;
    cut = says.cut;
    parts = says.parts;
    part = says.part;
    groups = says.groups;
    made = says.made.made h fits;
    steps = subst AreQuerySteps (sym (says.made.made h fits)) says.steps;
    before = says.before h lawful fits;
    cause = says.cause h lawful fits;
    few = says.few h lawful fits;
  },
)
