-- Queries in forms.
use Rattle.std.specs.Prelude.{ℕ, Bool, false, not, List, [], ◌∷◌, codes, length, Option, None, Some, Result, Ok, Err}
use Rattle.tsd_base.specs.Tags.{is_same}
use Rattle.http_requests.specs.Forms.{Parameter, all_values, first_value, form_pairs}
use Rattle.query_requests.specs.QueryReadings.{◌>>=◌, end_behind, few_queries, last_moment, time_in}
use Rattle.query_text.specs.Subs.{sub_of}
use Rattle.query_text.specs.declared.queries.Sub.{Sub}
use Rattle.query_text.specs.declared.queries.Query.{Query}
use Rattle.query_text.specs.declared.queries.QueryFault.{QueryFault}
use Rattle.query_text.specs.declared.queries.QueryFault.TheVariants.{BadTimes}

-- a start that is missing is no time
abbrev pub start_in : ℕ → Option (List ℕ) → Result ℕ QueryFault
start_in now None = Err BadTimes
start_in now (Some text) = time_in now text

abbrev pub end_in : ℕ → Option (List ℕ) → Result ℕ QueryFault
end_in now None = Ok (last_moment now)
end_in now (Some text) = time_in now text

-- there, and not `false`
abbrev pub is_set : Option (List ℕ) → Bool
is_set None = false
is_set (Some value) = not (is_same value (codes "false"))

-- the sub queries of texts, or the first fault
abbrev pub subs_of : Bool → List (List ℕ) → Result (List Sub) QueryFault
subs_of ms [] = Ok []
subs_of ms (text ∷ texts) = do
  sub ← sub_of ms text
  subs ← subs_of ms texts
  Ok (sub ∷ subs)

-- the start, the end, their order, the number of sub queries, each of them
unfoldable pub query_of_form : ℕ → List Parameter → Result Query QueryFault
query_of_form now form = do
  start ← start_in now (first_value (codes "start") form)
  end ← end_in now (first_value (codes "end") form)
  last ← end_behind start end
  count ← few_queries (length (all_values (codes "m") form))
  subs ← subs_of (is_set (first_value (codes "ms") form)) (all_values (codes "m") form)
  Ok (record { start = start; end = last; ms = is_set (first_value (codes "ms") form); subs = subs })

-- the query that a form asks when the clock shows `now`, or the first fault
unfoldable pub query_by_form : ℕ → List ℕ → Result Query QueryFault
query_by_form now form = query_of_form now (form_pairs form)
