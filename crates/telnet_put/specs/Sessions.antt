-- What is to come of a telnet session.
use Rattle.std.specs.Prelude.{◌≡◌, ℕ, ◌+◌, ◌≤◌, true, false, List, [], ◌∷◌, ◌++◌, length, take, Some, if◌then◌else◌}
use Rattle.line_stream.specs.declared.line.TheConstants.{LONGEST_LINE}
use Rattle.line_stream.specs.Lines.{EndsLine, whole_line}
use Rattle.telnet_put.specs.Requests.{Request, closes, request_of_line, requests_of}
use Rattle.telnet_put.specs.Unread.{Unread}

-- the requests that are to come of what is kept and these more bytes: none where one closed the session
abbrev pub to_come : Unread → List ℕ → List Request
to_come unread more = if unread.closed then [] else requests_of (unread.bytes ++ more)

-- whatever more bytes come, the same requests are to come
abbrev pub ComesAs : Unread → Unread → Type 0
ComesAs old new = (more : List ℕ) → to_come new more ≡ to_come old more

-- this request was the next, whatever more bytes come; behind one that closes none is to come
pub record Gives (old : Unread) (request : Request) (new : Unread) : Type 0 where
  pub next : (more : List ℕ) → to_come old more ≡ request ∷ to_come new more
  pub last : closes request ≡ true → (more : List ℕ) → to_come new more ≡ []

-- No request is to come of the bytes that came, and nothing is lost of what more bytes complete; of a line that is too long no more
-- is kept than tells so.
pub record Waits (old new : Unread) : Type 0 where
  pub none : to_come old [] ≡ []
  pub same : ComesAs old new
  pub few : new.closed ≡ false → length new.bytes ≤ LONGEST_LINE + 1

-- the line that ends here, by an LF, asks this, and no request closed the session before it
pub record IsNext (unread : Unread) (end : ℕ) (request : Request) : Type 0 where
  pub live : unread.closed ≡ false
  pub ends : EndsLine (Some end) unread.bytes
  pub asks : request_of_line (whole_line (take end unread.bytes)) ≡ Some request

abbrev pub HasNext : Unread → ℕ → Type 0
HasNext unread end = (request : Request) × IsNext unread end request

-- the same requests are to come, and the first of them is that of the line that ends here
abbrev pub FindsNext : Unread → Unread → ℕ → Type 0
FindsNext old new end = ComesAs old new × HasNext new end

-- These bytes were fed and these requests given: whatever more bytes come, the requests of all are those, and then those to come.
abbrev pub HasGiven : List ℕ → List Request → Unread → Type 0
HasGiven fed given unread = (more : List ℕ) → requests_of (fed ++ more) ≡ given ++ to_come unread more
