-- Over every lawful history a name once resolved keeps one id that no other resolved name of its kind has; and where no series was given two values at one time, each query's
-- reply bytes are the plain aggregation of accepted points that include every point in range that was acknowledged before.
use Rattle.std.specs.Prelude.{◌≡◌, ℕ, ◌≤◌, List, [], ◌∷◌, ◌++◌, Contains, Option, Some, Result, Ok, Err}
use Rattle.tsd_base.specs.Points.{DataPoint}
use Rattle.tsd_base.specs.declared.kinds.Kind.{Kind}
use Rattle.cell_model.specs.History.{History, first}
use Rattle.cell_model.specs.IdRows.{id_of}
use Rattle.cell_model.specs.Readings.{Reading, Accepted, reading_of}
use Rattle.query_text.specs.declared.queries.Query.{Query}
use Rattle.query_text.specs.declared.queries.Sub.{Sub}
use Rattle.json_reply.specs.Replies.{Group}
use Rattle.metric_scan.specs.declared.fault.AskFault.{AskFault}
use Rattle.metric_scan.specs.declared.fault.AskFault.TheVariants.{Duplicate}
use Rattle.query_run.specs.AskedQueries.{answer_over}
use Rattle.query_run.specs.Invisible.{AcceptedFor, IsOneValued}
use Rattle.http_api.specs.CallWork.{work_of}
use Rattle.http_api.specs.CallWork.Work.{Asks}
use Rattle.http_api.specs.HttpAnswers.{IsReplyTo}
use Rattle.tsd_daemon.specs.declared.served.Served.{Served}
use Rattle.tsd_daemon.specs.ConnRequests.{ConnRequest, point_asked}
use Rattle.tsd_daemon.specs.ConnRequests.ConnRequest.{Telnet, Http}
use Rattle.tsd_daemon.specs.Exchanges.{moment_for}
use Rattle.tsd_daemon.specs.TakenInTurn.{TakenInTurn}

-- a name once resolved keeps one id, which no other resolved name of its kind has
pub record OneIdEach (h : History) : Type 0 where
  pub keeps : (kind : Kind) (name : List ℕ) (id n m : ℕ) → n ≤ m → id_of (first n h) kind name ≡ Some id → id_of (first m h) kind name ≡ Some id
  pub alone : (kind : Kind) (a b : List ℕ) (id n m : ℕ) → id_of (first n h) kind a ≡ Some id → id_of (first m h) kind b ≡ Some id → a ≡ b

-- Points from which a sub query of a query was answered: each was accepted before its reply, and each point in range is one of them that was accepted before the sub query's first
-- step, and so each that had been acknowledged when the query was asked, whoever put it.
pub record AnsweredFrom (h : History) (q : Query) (s : Sub) (asked replied : ℕ) (points : List Reading) : Type 0 where
  pub begun : ℕ
  pub in_between : (asked ≤ begun) × (begun ≤ replied)
  pub accepted : (r : Reading) → Contains points r → AcceptedFor q s (first replied h) r
  pub complete : (r : Reading) → AcceptedFor q s (first begun h) r → Contains points r
  pub acknowledged : (r : Reading) → AcceptedFor q s (first asked h) r → Contains points r

-- the groups of the sub queries, each the plain aggregation of such points
pub data ArePlain (h : History) (q : Query) (asked replied : ℕ) : List Sub → List Group → Type 0 where
  no_more : ArePlain h q asked replied [] []
  and_then : {s : Sub} {subs : List Sub} {groups rest : List Group} (points : List Reading) → AnsweredFrom h q s asked replied points → answer_over q s points ≡ Ok groups
      → ArePlain h q asked replied subs rest → ArePlain h q asked replied (s ∷ subs) (groups ++ rest)

-- the groups are so, or there are none for another cause than two values at one time
abbrev pub IsPlain : History → Query → ℕ → ℕ → Result (List Group) AskFault → Type 0
IsPlain h q asked replied (Ok groups) = ArePlain h q asked replied q.subs groups
IsPlain h q asked replied (Err (Duplicate time a b)) = ⊥
IsPlain h q asked replied (Err refusal) = Unit {0}

-- A query was answered so where no series that it wants was given two values at one time; the point of a put by telnet that wasn't refused is an accepted one.
abbrev pub RepliedPlainly : History → ℕ → ℕ → ConnRequest → Option ℕ → List ℕ → Type 0
RepliedPlainly h asked replied (Http call) moment reply = (now : ℕ) × (moment ≡ moment_for call now)
    × ((q : Query) → work_of now call ≡ Asks q → IsOneValued q (first replied h) → (result : Result (List Group) AskFault) × IsPlain h q asked replied result × IsReplyTo result call.closing reply)
RepliedPlainly h asked replied (Telnet request) moment reply = (point : DataPoint) → point_asked request ≡ Some point → reply ≡ [] → Accepted (first replied h) (reading_of point)

-- The headline, of a connection between two lengths of a lawful history: names keep their ids there, and its requests were answered so, one after the other.
pub record Headline (h : History) (from to : ℕ) (input output times : List ℕ) (result : Served) : Type 0 where
  pub ids : OneIdEach h
  pub queries : TakenInTurn (RepliedPlainly h) from to input output times result
