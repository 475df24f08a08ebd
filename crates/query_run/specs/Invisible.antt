-- Compaction that no answer shows: what was accepted and which names are resolved decide what a query is answered.
use Rattle.std.specs.Prelude.{◌≡◌, ◌↔◌, ◌⊎◌, ℕ, ℤ, ◌<◌, ◌≤◌, List, map, Contains, Some, true, Result, Ok, Err}
use Rattle.cell_model.specs.declared.events.Entry.{Entry}
use Rattle.cell_model.specs.History.{History, len, entry_at, first}
use Rattle.cell_model.specs.Lawful.{IsLawful}
use Rattle.cell_model.specs.Readings.{Reading, OneValued, Accepted}
use Rattle.cell_model.specs.Seen.{Seen, Fits}
use Rattle.cell_laws.specs.Laws.{IsInvisible}
use Rattle.row_scan.specs.RowReadings.{Chosen}
use Rattle.json_reply.specs.Replies.{Group, plain}
use Rattle.json_reply.specs.declared.reply.Reply.{Reply}
use Rattle.query_text.specs.declared.queries.Query.{Query}
use Rattle.query_text.specs.declared.queries.Sub.{Sub}
use Rattle.metric_scan.specs.declared.fault.AskFault.{AskFault}
use Rattle.metric_scan.specs.declared.fault.AskFault.TheVariants.{Duplicate, OutOfMemory, Stopped}
use Rattle.metric_scan.specs.Parts.{NameOf, IsResolved}
use Rattle.query_run.specs.AskedQueries.{wanted, names_in, QuerySays}

-- The query was asked at the end of the history `began`, and answered so. Until the answer, which stands in a history of this store, nobody
-- put a point or assigned an id: others opened, read, merged or dropped, if they stepped at all.
pub record Gives (q : Query) (began : History) (result : Result Reply AskFault) : Type 0 where
  pub old : Seen
  pub new : Seen
  pub history : History
  pub lawful : IsLawful history
  pub fits : Fits new history
  pub begins : first old.length history ≡ began
  pub others : (place : ℕ) (e : Entry) → old.length < place → place ≤ new.length → entry_at history place ≡ Some e → (e.caller ≡ old.caller) ⊎ IsInvisible e.step
  pub says : QuerySays q old result new

-- the accepted readings that a sub query wants
abbrev pub AcceptedFor : Query → Sub → History → Reading → Type 0
AcceptedFor q s h = Chosen (wanted q s) (Accepted h)

-- of what the query wants no series was given two values at one time
abbrev pub IsOneValued : Query → History → Type 0
IsOneValued q h = (s : Sub) → Contains q.subs s → OneValued (AcceptedFor q s h)

-- Of what the query wants they have the same accepted readings, and of its names they resolve the same, to whichever ids.
pub record AreAlike (q : Query) (g h : History) : Type 0 where
  pub readings : (s : Sub) → Contains q.subs s → (r : Reading) → AcceptedFor q s g r ↔ AcceptedFor q s h r
  pub names : (s : Sub) → Contains q.subs s → (n : NameOf) → Contains (names_in s) n → IsResolved g n ↔ IsResolved h n

-- the answer as plain data: the groups, or why there are none
abbrev pub told : Result Reply AskFault → Result (List Group) AskFault
told (Ok reply) = Ok (map plain reply.groups.items)
told (Err fault) = Err fault

-- the answer isn't want of memory or a stop, which may come at any time
abbrev pub IsSettled : Result (List Group) AskFault → Type 0
IsSettled (Err OutOfMemory) = ⊥
IsSettled (Err Stopped) = ⊥
IsSettled _ = Unit {0}

-- Two lawful histories with the same accepted readings and the same resolved names give a query the same answer, where no series was given
-- two values at one time. Of two values at one time the older may be gone, so there the answer isn't decided by what was accepted.
abbrev pub SameAcceptedSameAnswer : Type 0
SameAcceptedSameAnswer = (q : Query) (g h : History) (a b : Result Reply AskFault) → AreAlike q g h → IsOneValued q g
    → Gives q g a → Gives q h b → IsSettled (told a) → IsSettled (told b) → told a ≡ told b

-- the second history is the first one with merges, drops, reads and openings behind it
pub record GrowsInvisibly (g h : History) : Type 0 where
  pub begins : first (len g) h ≡ g
  pub behind : (place : ℕ) (e : Entry) → len g < place → entry_at h place ≡ Some e → IsInvisible e.step

-- so a query has the same answer before a compaction, in its midst and after it
abbrev pub CompactionChangesNoAnswer : Type 0
CompactionChangesNoAnswer = (q : Query) (g h : History) (a b : Result Reply AskFault) → GrowsInvisibly g h → IsOneValued q g
    → Gives q g a → Gives q h b → IsSettled (told a) → IsSettled (told b) → told a ≡ told b

-- where of what was accepted until the answer no series was given two values at one time, no query is refused for two values
abbrev pub OneValueIsAnswered : Type 0
OneValueIsAnswered = (q : Query) (old new : Seen) (h : History) (time : ℕ) (a b : ℤ) → IsLawful h → Fits new h → IsOneValued q (first new.length h)
    → QuerySays q old (Err (Duplicate time a b)) new → ⊥

-- what a caller that steps alone is answered is so: it was asked at the end of what stood before
abbrev pub AloneGives : Type 0
AloneGives = (q : Query) (old new : Seen) (h : History) (result : Result Reply AskFault) → IsLawful h → Fits new h → old.alone ≡ true
    → QuerySays q old result new → Gives q (first old.length h) result
