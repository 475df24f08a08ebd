-- What is to come of an HTTP connection.
use Rattle.std.specs.Prelude.{◌≡◌, ℕ, ◌+◌, ◌<◌, true, false, List, [], ◌∷◌, ◌++◌, length, Option, None, Some, if◌then◌else◌}
use Rattle.http_requests.specs.declared.http_call.TheConstants.{LONGEST_BODY, LONGEST_HEAD}
use Rattle.http_requests.specs.declared.http_call.Call.{Call}
use Rattle.http_requests.specs.HttpRequests.{requests_of}
use Rattle.http_requests.specs.HttpUnread.{Unread}

-- the requests that are to come of what is kept and these more bytes: none where one closed the connection
abbrev pub to_come : Unread → List ℕ → List Call
to_come unread more = if unread.closed then [] else requests_of (unread.bytes ++ more)

-- whatever more bytes come, the same requests are to come
abbrev pub ComesAs : Unread → Unread → Type 0
ComesAs old new = (more : List ℕ) → to_come new more ≡ to_come old more

-- this request was the next, whatever more bytes come; behind one that closes none is to come
pub record Gives (old : Unread) (call : Call) (new : Unread) : Type 0 where
  pub next : (more : List ℕ) → to_come old more ≡ call ∷ to_come new more
  pub last : call.closing ≡ true → (more : List ℕ) → to_come new more ≡ []

-- No request is to come of the bytes that came, and nothing is lost of what more bytes complete; no more is kept than an unfinished
-- request has.
pub record Waits (old new : Unread) : Type 0 where
  pub none : to_come old [] ≡ []
  pub same : ComesAs old new
  pub few : new.closed ≡ false → length new.bytes < LONGEST_HEAD + LONGEST_BODY

-- what a turn gives: the next request, or none where none has come
abbrev pub Turns : Unread → Option Call → Unread → Type 0
Turns old None new = Waits old new
Turns old (Some call) new = Gives old call new

-- These bytes were fed and these requests given: whatever more bytes come, the requests of all are those, and then those to come.
abbrev pub HasGiven : List ℕ → List Call → Unread → Type 0
HasGiven fed given unread = (more : List ℕ) → requests_of (fed ++ more) ≡ given ++ to_come unread more
