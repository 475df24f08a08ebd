-- A request whose head was read and whose body may be still to come.
use Rattle.std.specs.Prelude.{◌≡◌, ℕ, ◌+◌, ◌≤◌, List, ◌++◌, length, drop, Option, None, Some, Result, Ok, Err}
use Rattle.http_requests.specs.declared.request_stream.Waiting.{Waiting}
use Rattle.http_requests.specs.declared.http_call.Refusal.{Refusal}
use Rattle.http_requests.specs.HttpRequests.{first_of, by_body, call_of, refused}

-- a head was read that ends here, whatever more comes
pub record IsWaiting (bytes : List ℕ) (waiting : Waiting) : Type 0 where
  pub within : waiting.from ≤ length bytes
  pub same : (more : List ℕ) → first_of (bytes ++ more) ≡ by_body waiting.plan (drop waiting.from bytes ++ more)

-- the first request is this refusal, whatever more comes
abbrev pub IsRefused : List ℕ → Refusal → Type 0
IsRefused bytes refusal = (more : List ℕ) → (rest : List ℕ) × (first_of (bytes ++ more) ≡ Some (refused refusal, rest))

abbrev pub Knows : List ℕ → Option Waiting → Type 0
Knows bytes None = Unit {0}
Knows bytes (Some waiting) = IsWaiting bytes waiting

-- what looking for the head said
abbrev pub Decides : List ℕ → Option (Result Waiting Refusal) → Type 0
Decides bytes None = first_of bytes ≡ None
Decides bytes (Some (Ok waiting)) = IsWaiting bytes waiting
Decides bytes (Some (Err refusal)) = IsRefused bytes refusal

-- the body has come, and with it the request; or it hasn't
abbrev pub TakesBody : List ℕ → Waiting → Option (List ℕ) → Type 0
TakesBody bytes waiting None = first_of bytes ≡ None
TakesBody bytes waiting (Some body) =
    (waiting.from + waiting.plan.len ≤ length bytes)
    × ((more : List ℕ) → first_of (bytes ++ more) ≡ Some (call_of waiting.plan body, drop (waiting.from + waiting.plan.len) bytes ++ more))
