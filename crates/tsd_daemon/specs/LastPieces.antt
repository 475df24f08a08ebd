-- What had been answered when the last piece of a connection was taken.
use Rattle.std.specs.Prelude.{◌≡◌, ◌⊎◌, ◌≤◌, ℕ, false, List, [], ◌++◌, length, Option}
use Rattle.std.specs.List.{list_any}
use Rattle.tsd_daemon.specs.ConnPieces.{IsLast, longest_piece}
use Rattle.tsd_daemon.specs.ConnRequests.{closes_conn, conn_requests}
use Rattle.tsd_daemon.specs.Exchanges.{Exchange, replies_in, requests_in}

-- Bytes are taken only where all that came before was answered: the requests of the bytes before the last piece were answered first, all their replies were given, and none of them closes.
pub record TakenLast (done : List Exchange) (input output : List ℕ) : Type 0 where
  pub before : List ℕ
  pub piece : List ℕ
  pub bytes : input ≡ before ++ piece
  pub within : length piece ≤ longest_piece
  pub answered : List Exchange
  pub later : List Exchange
  pub in_order : done ≡ answered ++ later
  pub requests : conn_requests before ≡ requests_in answered
  pub open_still : list_any closes_conn (conn_requests before) ≡ false
  pub given_later : List ℕ
  pub given : output ≡ replies_in answered ++ given_later

-- The piece is what the last take gave, where the source tells it. Or no take was made: no bytes were taken, and what the source tells stands still.
abbrev pub GaveLast : Option (List ℕ) → Option (List ℕ) → List ℕ → List ℕ → Type 0
GaveLast last last' input piece = IsLast last' piece ⊎ ((input ≡ []) × (last' ≡ last))

-- What the last take gave, nothing where it failed or found the end, was taken only where all that came before was answered.
pub record LastTake (last last' : Option (List ℕ)) (done : List Exchange) (input output : List ℕ) : Type 0 where
  pub taken : TakenLast done input output
  pub gave : GaveLast last last' input taken.piece
