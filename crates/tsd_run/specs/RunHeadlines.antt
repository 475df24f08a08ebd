-- The headline of a run, by its command.
use Rattle.std.specs.Prelude.{◌≡◌, ◌⊎◌, ℕ, Bool, true, false, All, List, [], ◌++◌, map, Option, Some, MatchOption}
use Rattle.std.specs.Io.KnownBytes.{Appends}
use Rattle.link_workers.specs.Returns.{AllEnd}
use Rattle.cell_model.specs.declared.answers.Tally.{Tally}
use Rattle.cell_model.specs.History.{History, base_of, first, len, store_after}
use Rattle.cell_model.specs.IdRows.{NameOf, IsResolved}
use Rattle.cell_model.specs.Lawful.{IsLawful}
use Rattle.cell_model.specs.Readings.{Reading, Accepted}
use Rattle.command_words.specs.CommandWords.{Asked, Serve, fleet_asked}
use Rattle.command_words.specs.CommandWords.Asked.{BatchAsked, StdioAsked}
use Rattle.tsd_daemon.specs.declared.served.Served.{Served}
use Rattle.stdio_job.specs.LoneConnections.{TellsBehind}
use Rattle.tsd_daemon.specs.ServedConns.{Passes}
use Rattle.tsd_daemon.specs.TakenInTurn.{InTurn}
use Rattle.tsd_daemon.specs.Headline.{Headline, OneIdEach}
use Rattle.conn_workers.specs.ServedLinks.{GaveSome, ServedLink}
use Rattle.worker_returns.specs.GatheredLinks.{CallerLinks, links_of}
use Rattle.tsd_fleet.specs.FleetServes.{IsTally}
use Rattle.serve_job.specs.FleetRuns.{last_lines}
use Rattle.batch_run.specs.declared.status.Status.{Status}
use Rattle.batch_run.specs.declared.status.Status.TheVariants.{Done}
use Rattle.batch_run.specs.BatchHeadlines.{BatchHeadline}
use Rattle.tsd_run.specs.FleetStatuses.{TakesStore}
use Rattle.tsd_run.specs.RunDevices.{Devices, InputTold, LoneDevices, conn_told, lone}
use Rattle.tsd_run.specs.Runs.{HasStatus}

-- ---- a store of the run's own

-- a lawful history that begins without a name and without a point
pub record IsOwnHistory (h : History) : Type 0 where
  pub lawful : IsLawful h
  pub no_name : (n : NameOf) → IsResolved (first 0 h) n → ⊥
  pub no_point : (r : Reading) → Accepted (first 0 h) r → ⊥

-- The connection has the headline in such a history, behind its caller's opening. Behind its replies the points of that history are published that are asked for.
pub record StdioHeadline (publish : Option (List ℕ)) (status : Status) (input output times : List ℕ) : Type 0 where
  pub history : History
  pub own : IsOwnHistory history
  pub replies : List ℕ
  pub given : List ℕ
  pub output_is : output ≡ replies ++ given
  pub ended : Served
  pub headline : Headline history 1 (len history) input replies times ended
  pub result : Served
  pub behind : TellsBehind publish ended result history given
  pub status_is : HasStatus result status

-- a connection that was given back has it between two lengths, with the bytes that its ends tell
pub record LinkHeadline (inlets_tell outlets_tell : Type 0) (moments : Option (List ℕ)) (h : History) (from to : ℕ) (link : ServedLink) : Type 0 where
  pub input : List ℕ
  pub output : List ℕ
  pub times : List ℕ
  pub taken : inlets_tell → link.0.taken ≡ Some input
  pub given : outlets_tell → link.0.held ≡ Some output
  pub clock : GaveSome moments times
  pub headline : Headline h from to input output times link.1

-- What the history of a fleet begins with. Without an image it has no name and no point at first. With one it begins with the store of the listing that was taken, or no connection was served.
abbrev pub BeginsSo : Bool → (before after : InputTold) → List CallerLinks → History → Type 0
BeginsSo false before after callers h = IsOwnHistory h
BeginsSo true before after callers h = (callers ≡ []) ⊎ TakesStore before after (base_of h)

-- In one lawful history each connection that was given back has the headline, each caller's one after the other, and the last lines tell the numbers of the store after it. Where it is saved its image
-- comes behind them.
pub record FleetHeadline (s : Serve) (inlets_tell outlets_tell : Type 0) (before after : Devices) (status : Status) : Type 0 where
  pub history : History
  pub lawful : IsLawful history
  pub ids : OneIdEach history
  pub callers : List CallerLinks
  pub begins : BeginsSo s.image before.input after.input callers history
  pub given_back : AllEnd before.doors.back after.doors.back (map (λ (l : ServedLink). l.0) (links_of callers))
  pub each : All (λ (k : CallerLinks). InTurn (LinkHeadline inlets_tell outlets_tell before.clock.moments history) 0 k.links k.last) callers
  pub printed : status ≡ Done → (tally : Tally) × IsTally (store_after history) tally × ((links : ℕ) × (front : List ℕ) × Appends before.output.held after.output.held (front ++ last_lines links tally s.save (store_after history)))

-- ---- a run

-- of the commands that wait for nobody
abbrev pub LoneHeadline : Option Asked → (before after : LoneDevices) → Status → Type 0
LoneHeadline (Some (BatchAsked batch)) before after status = Passes (conn_told before) (conn_told after) (BatchHeadline batch status)
LoneHeadline (Some (StdioAsked s)) before after status = Passes (conn_told before) (conn_told after) (StdioHeadline s.publish status)
LoneHeadline other before after status = Unit {0}

-- of any words
abbrev pub RunHeadline : Option Asked → (inlets_tell outlets_tell : Type 0) → (before after : Devices) → Status → Type 0
RunHeadline asked inlets_tell outlets_tell before after status =
    MatchOption (fleet_asked asked) (LoneHeadline asked (lone before) (lone after) status) (λ s. FleetHeadline s inlets_tell outlets_tell before after status)
