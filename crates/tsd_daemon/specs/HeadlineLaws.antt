-- What holds of every lawful history, and so of each connection that was served in it.
use Rattle.std.specs.Prelude.{ℕ, ◌≤◌, List, Result}
use Rattle.cell_model.specs.History.{History, first}
use Rattle.cell_model.specs.Lawful.{IsLawful}
use Rattle.cell_model.specs.Readings.{Reading, Accepted}
use Rattle.json_reply.specs.Replies.{Group}
use Rattle.point_put.specs.Admissions.{Admission}
use Rattle.query_text.specs.declared.queries.Query.{Query}
use Rattle.metric_scan.specs.declared.fault.AskFault.{AskFault}
use Rattle.query_run.specs.AskedQueries.{QueryAsked}
use Rattle.query_run.specs.Invisible.{IsOneValued}
use Rattle.tsd_daemon.specs.declared.served.Served.{Served}
use Rattle.tsd_daemon.specs.ServedConns.{IsServed}
use Rattle.tsd_daemon.specs.Headline.{Headline, IsPlain, OneIdEach}

-- what was accepted stays accepted
abbrev pub StaysAccepted : Type 0
StaysAccepted = (h : History) (n m : ℕ) (r : Reading) → IsLawful h → n ≤ m → Accepted (first n h) r → Accepted (first m h) r

-- a name once resolved keeps one id, which no other resolved name of its kind has
abbrev pub HasOneIdEach : Type 0
HasOneIdEach = (h : History) → IsLawful h → OneIdEach h

-- A query that was asked between two lengths is answered from all that it wants and was accepted before, and from nothing that wasn't accepted, and isn't refused for two values, where
-- no series that it wants was given two values at one time.
abbrev pub QueriesArePlain : Type 0
QueriesArePlain = (h : History) (caller n n2 : ℕ) (q : Query) (result : Result (List Group) AskFault) → IsLawful h → n ≤ n2 → QueryAsked h caller n q result n2 → IsOneValued q (first n2 h)
    → IsPlain h q n n2 result

-- so the headline holds of each connection that was served
abbrev pub ServedHasHeadline : Type 0
ServedHasHeadline = (c : Admission) (h : History) (caller n n2 : ℕ) (input output times : List ℕ) (result : Served) → IsLawful h → IsServed c h caller n n2 input output times result
    → Headline h n n2 input output times result
