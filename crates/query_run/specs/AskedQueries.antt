-- What a query wants of the readings, and which sub queries are barred.
use Rattle.std.specs.Prelude.{ℕ, Bool, true, ◌&&◌, nat_le, List, map, Option, None, Some, Result, Ok, Err}
use Rattle.std.specs.Option.{option_map, option_or}
use Rattle.tsd_base.specs.Points.{DataPoint}
use Rattle.tsd_base.specs.Tags.{is_same}
use Rattle.query_text.specs.declared.queries.Query.{Query}
use Rattle.query_text.specs.declared.queries.Sub.{Sub}
use Rattle.query_text.specs.declared.queries.Filter.{Filter}
use Rattle.cell_model.specs.declared.events.Placed.{Placed}
use Rattle.cell_model.specs.History.{History}
use Rattle.cell_model.specs.Layout.{base_time}
use Rattle.cell_model.specs.Readings.{Reading}
use Rattle.cell_model.specs.Seen.{Seen}
use Rattle.tag_match.specs.Patterns.{passes}
use Rattle.tag_match.specs.Building.{first_bad}
use Rattle.json_reply.specs.Replies.{Group, plain}
use Rattle.json_reply.specs.declared.reply.Reply.{Reply}
use Rattle.metric_scan.specs.declared.fault.AskFault.{AskFault}
use Rattle.metric_scan.specs.declared.fault.AskFault.TheVariants.{TooManyBuckets, BadFilter}
use Rattle.series_groups.specs.QueryAnswers.{answer, too_many_down}
use Rattle.metric_scan.specs.Parts.{IsShort}
pub use Rattle.metric_scan.specs.SubNames.{names_in}
use Rattle.query_run.specs.Asked.{AskSays, SubsAsked}

-- of the metric, in the range of times, both ends included, and of tags that pass each filter
abbrev pub is_wanted : ℕ → ℕ → List ℕ → List Filter → Reading → Bool
is_wanted start end metric filters r = is_same r.metric metric && (nat_le start r.time && (nat_le r.time end && passes filters r.tags))

abbrev pub wanted : Query → Sub → Reading → Bool
wanted q s r = is_wanted q.start q.end s.metric s.filters r

-- too many buckets, or the first filter with a pattern that isn't read
abbrev pub bar_of : Option ℕ → Option ℕ → Option AskFault
bar_of count index = option_or (option_map (λ n. TooManyBuckets n) count) (option_map (λ i. BadFilter i) index)

-- what keeps a sub query from being worked at all
abbrev pub barred : Query → Sub → Option AskFault
barred q s = bar_of (too_many_down q.start q.end s.down) (first_bad s.filters)

-- a reading as a point in milliseconds
abbrev pub as_point : Reading → DataPoint
as_point r = record { metric = r.metric; tags = r.tags; time = r.time; fine = true; value = r.value }

abbrev pub answer_over : Query → Sub → List Reading → Result (List Group) ℕ
answer_over q s readings = answer q s (map as_point readings)

-- the entries of a sub query are few enough
abbrev pub IsFew : Query → Sub → List Placed → History → Type 0
IsFew q s own h = IsShort (names_in s) s.metric (base_time q.start) (base_time q.end) own h

abbrev pub QuerySays : Query → Seen → Result Reply AskFault → Seen → Type 0
QuerySays q old result new = AskSays (wanted q) names_in (barred q) (answer_over q) (IsFew q) old q.subs result new

-- an answer as plain data
abbrev pub plain_result : Result Reply AskFault → Result (List Group) AskFault
plain_result (Ok reply) = Ok (map plain reply.groups.items)
plain_result (Err fault) = Err fault

-- between two lengths of a history a caller asked a query, by its entries there and no other, and was answered so
abbrev pub QueryAsked : History → ℕ → ℕ → Query → Result (List Group) AskFault → ℕ → Type 0
QueryAsked h caller n q result n2 = SubsAsked (wanted q) names_in (barred q) (answer_over q) (IsFew q) h caller n q.subs result n2
