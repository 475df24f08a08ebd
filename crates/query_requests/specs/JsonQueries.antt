-- Queries in JSON.
use Rattle.std.specs.Prelude.{ℕ, Bool, true, false, List, [], ◌∷◌, codes, decimal, is_some, option_and_then, Option, None, Some, Result, Ok, Err}
use Rattle.serde_json.specs.Data.{Data, Items, no_items, item}
use Rattle.serde_json.specs.Find.{as_number, as_str, as_u64, get}
use Rattle.query_requests.specs.JsonMembers.{count_of, flag_in, items_in, object_in, present}
use Rattle.query_requests.specs.JsonSubs.{sub_in}
use Rattle.query_requests.specs.QueryReadings.{◌>>=◌, end_behind, few_queries, last_moment, time_in}
use Rattle.query_text.specs.declared.queries.Sub.{Sub}
use Rattle.query_text.specs.declared.queries.Query.{Query}
use Rattle.query_text.specs.declared.queries.QueryFault.{QueryFault}
use Rattle.query_text.specs.declared.queries.QueryFault.TheVariants.{BadQuery, BadTimes}

abbrev pub number_time : ℕ → Bool → Option ℕ → Result ℕ QueryFault
number_time now true (Some n) = time_in now (decimal n)
number_time now true None = Err BadTimes
number_time now false n = Err BadQuery

abbrev pub time_by : ℕ → Option (List ℕ) → Data → Result ℕ QueryFault
time_by now (Some text) d = time_in now text
time_by now None d = number_time now (is_some (as_number d)) (option_and_then as_u64 (as_number d))

-- a string, or a number, which is read as its digits; any other kind is no query
abbrev pub time_of : ℕ → Data → Result ℕ QueryFault
time_of now d = time_by now (as_str d) d

abbrev pub start_by : ℕ → Option Data → Result ℕ QueryFault
start_by now value = present value >>= time_of now

abbrev pub end_by : ℕ → Option Data → Result ℕ QueryFault
end_by now None = Ok (last_moment now)
end_by now (Some d) = time_of now d

-- the sub queries of items, or the first fault
abbrev pub subs_in : Bool → Items → Result (List Sub) QueryFault
subs_in ms no_items = Ok []
subs_in ms (item d ds) = do
  sub ← sub_in ms d
  subs ← subs_in ms ds
  Ok (sub ∷ subs)

-- the query that a JSON value asks when the clock shows `now`, or the first fault
unfoldable pub query_by_json : ℕ → Data → Result Query QueryFault
query_by_json now d = do
  o ← object_in d
  start ← start_by now (get (codes "start") o)
  end ← end_by now (get (codes "end") o)
  last ← end_behind start end
  ms ← flag_in (get (codes "msResolution") o)
  queries ← items_in (get (codes "queries") o)
  count ← few_queries (count_of queries)
  subs ← subs_in ms queries
  Ok (record { start = start; end = last; ms = ms; subs = subs })
