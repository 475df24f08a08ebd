-- Queries that are read in parts.
use Rattle.std.specs.Prelude.{◌≡◌, ℕ, ◌≤◌, min, Bool, nat_eq, nat_lt, List, ◌++◌, All, Option, None, Some, Result, Ok, Err, MatchResult, if◌then◌else◌}
use Rattle.tsd_base.specs.declared.times.TheConstants.{LAST_TIME}
use Rattle.query_requests.specs.QueryTimes.{time_named}
use Rattle.query_requests.specs.declared.query_times.BadTimes.{BadTimes as NoTime}
use Rattle.query_text.specs.Subs.{CanDown}
use Rattle.query_text.specs.declared.queries.Query.{Query}
use Rattle.query_text.specs.declared.queries.TheConstants.{MOST_QUERIES}
use Rattle.query_text.specs.declared.queries.QueryFault.{QueryFault}
use Rattle.query_text.specs.declared.queries.QueryFault.TheVariants.{BadTimes, BadQuery, TooManyQueries, OutOfMemory}

-- what comes after what was read, where it was
infixl 10 ◌>>=◌
abbrev pub ◌>>=◌ : {A B : Type 0} → Result A QueryFault → (A → Result B QueryFault) → Result B QueryFault
(Ok x) >>= f = f x
(Err fault) >>= f = Err fault

-- what is there, or else the fault
abbrev pub or_fault : {A : Type 0} → QueryFault → Option A → Result A QueryFault
or_fault fault None = Err fault
or_fault fault (Some x) = Ok x

abbrev pub or_bad_times : Result ℕ NoTime → Result ℕ QueryFault
or_bad_times (Ok time) = Ok time
or_bad_times (Err bad) = Err BadTimes

-- the time that a text names
abbrev pub time_in : ℕ → List ℕ → Result ℕ QueryFault
time_in now text = or_bad_times (time_named now text)

-- an end that is missing is now, but not behind the last time
abbrev pub last_moment : ℕ → ℕ
last_moment now = min now LAST_TIME

-- no end is below its start
abbrev pub end_behind : ℕ → ℕ → Result ℕ QueryFault
end_behind start end = if nat_lt end start then Err BadTimes else Ok end

-- one sub query at least, and not too many
abbrev pub few_queries : ℕ → Result ℕ QueryFault
few_queries count = if nat_eq count 0 then Err BadQuery else if nat_lt MOST_QUERIES count then Err (TooManyQueries count) else Ok count

-- these, and then what is read behind them
abbrev pub with_front : {A : Type 0} → List A → Result (List A) QueryFault → Result (List A) QueryFault
with_front front (Ok rest) = Ok (front ++ rest)
with_front front (Err fault) = Err fault

-- want of memory may always be told; any other fault is the text's own
abbrev pub Fails : {A : Type 0} → QueryFault → Result A QueryFault → Type 0
Fails OutOfMemory read = Unit {0}
Fails fault read = read ≡ Err fault

-- what was read is what reading gives
abbrev pub Gives : {A B : Type 0} → (A → B) → Result A QueryFault → Result B QueryFault → Type 0
Gives seen answer read = MatchResult answer (λ found. read ≡ Ok (seen found)) (λ fault. Fails fault read)

-- the query that is asked, or the fault; want of memory may always be told
abbrev pub GivesQuery : Result Query QueryFault → Result Query QueryFault → Type 0
GivesQuery answer asked = Gives (λ query. query) answer asked

-- its times are in order and none is behind the last time, and its downsamples have intervals
pub record CanWork (q : Query) : Type 0 where
  pub order : q.start ≤ q.end
  pub most : q.end ≤ LAST_TIME
  pub downs : All (CanDown q.ms) q.subs
