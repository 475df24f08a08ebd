-- What is kept of an HTTP connection.
use Rattle.std.specs.Prelude.{ℕ, Bool, List}

-- the bytes that no request used up, and whether a request closed the connection
pub record Unread : Type 0 where
  pub bytes : List ℕ
  pub closed : Bool
