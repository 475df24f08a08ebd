-- What a query over points is answered.
use Rattle.std.specs.Prelude.{◌≡◌, ℕ, ◌≤◌, Bool, not, List, [], ◌∷◌, filter, find, map, Option, None, Some, option_map, Result, Ok, Err}
use Rattle.std.specs.List.{flat_map, list_any}
use Rattle.tsd_base.specs.declared.times.TheConstants.{LAST_TIME}
use Rattle.tsd_base.specs.Tags.{is_same}
use Rattle.tsd_base.specs.Points.{DataPoint}
use Rattle.tsd_base.specs.LastPoints.{last_points}
use Rattle.tsd_base.specs.declared.kinds.Kind.TheVariants.{Metric, TagKey, TagValue}
use Rattle.tsd_base.specs.declared.kinds.Kind.{Kind}
use Rattle.cell_model.specs.Layout.{names_of}
use Rattle.cell_model.specs.Readings.{reading_of}
use Rattle.query_text.specs.Subs.{CanDown}
use Rattle.query_text.specs.declared.queries.Query.{Query}
use Rattle.query_text.specs.declared.queries.Sub.{Sub}
use Rattle.json_reply.specs.Replies.{Group, plain}
use Rattle.json_reply.specs.declared.reply.Reply.{Reply}
use Rattle.series_groups.specs.QueryAnswers.{answer}
use Rattle.metric_scan.specs.Parts.{NameOf}
use Rattle.query_run.specs.AskedQueries.{barred, names_in, wanted}
use Rattle.metric_scan.specs.declared.fault.AskFault.{AskFault}
use Rattle.metric_scan.specs.declared.fault.AskFault.TheVariants.{Unknown, Duplicate, Overflow, OutOfMemory, Stopped}
use Rattle.batch_job.specs.Conflicts.{first_conflict}
use Rattle.batch_job.specs.NotedIds.{Names, no_names, noted_all}

-- a query of one sub query that may be asked
pub record CanAsk (query : Query) : Type 0 where
  pub sub : Sub
  pub subs_are : query.subs ≡ sub ∷ []
  pub order : query.start ≤ query.end
  pub most : query.end ≤ LAST_TIME
  pub down : CanDown query.ms sub

-- the names of points, each of which has its id
abbrev pub names_after : List DataPoint → Names
names_after points = or_none (noted_all no_names (flat_map names_of points))
  where
    or_none : Result Names Kind → Names
    or_none (Ok names) = names
    or_none (Err kind) = no_names

-- the point has this name as one of its names of the kind
abbrev pub has_name : NameOf → DataPoint → Bool
has_name (Metric, name) p = is_same p.metric name
has_name (TagKey, name) p = list_any (λ t. is_same t.0 name) p.tags
has_name (TagValue, name) p = list_any (λ t. is_same t.1 name) p.tags

-- the first name of a sub query that no point has
abbrev pub first_unknown : Sub → List DataPoint → Option NameOf
first_unknown s points = find (λ n. not (list_any (has_name n) points)) (names_in s)

-- of points with one series, time and form the last one counts, where the sub query wants it
abbrev pub kept : Query → Sub → List DataPoint → List DataPoint
kept q s points = filter (λ p. wanted q s (reading_of p)) (last_points points)

-- the fault, or else what comes behind it
abbrev pub unless : Option AskFault → Result (List Group) AskFault → Result (List Group) AskFault
unless (Some fault) other = Err fault
unless None other = other

abbrev pub unless_overflow : Result (List Group) ℕ → Result (List Group) AskFault
unless_overflow (Ok groups) = Ok groups
unless_overflow (Err time) = Err (Overflow time)

-- The groups of a query over points, or the first of these: too many buckets, a filter with a pattern that isn't read, a name that is unknown, a conflict, an overflow.
abbrev pub answered : Query → Sub → List DataPoint → Result (List Group) AskFault
answered q s points =
    unless (barred q s)
    (unless (option_map (λ n. Unknown n.0 n.1) (first_unknown s points))
    (unless (option_map (λ c. Duplicate c.0 c.1 c.2) (first_conflict (names_after points) (kept q s points)))
    (unless_overflow (answer q s (kept q s points)))))

-- the answer, or why there is none; want of memory and a stop may always be told
abbrev pub GivesAnswer : Result Reply AskFault → Result (List Group) AskFault → Type 0
GivesAnswer (Ok reply) answer = answer ≡ Ok (map plain reply.groups.items)
GivesAnswer (Err OutOfMemory) answer = Unit {0}
GivesAnswer (Err Stopped) answer = Unit {0}
GivesAnswer (Err fault) answer = answer ≡ Err fault
