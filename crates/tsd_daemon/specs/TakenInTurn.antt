-- Requests that were answered one after the other, between two lengths of a history.
use Rattle.std.specs.Prelude.{◌≡◌, ℕ, ◌≤◌, Bool, true, false, List, [], ◌∷◌, ◌++◌, Option}
use Rattle.tsd_daemon.specs.declared.served.Served.{Served}
use Rattle.tsd_daemon.specs.declared.served.Served.TheVariants as answer
use Rattle.tsd_daemon.specs.ConnRequests.{ConnRequest, conn_requests}
use Rattle.tsd_daemon.specs.Exchanges.{Exchange, moments_in, requests_in, replies_in}

-- Each of a list has two lengths of its own, none of which lie before those of the one before it.
pub data InTurn {X : Type 0} (Between : ℕ → ℕ → X → Type 0) (from : ℕ) : List X → ℕ → Type 0 where
  none_yet : {to : ℕ} → from ≤ to → InTurn Between from [] to
  then_one : {xs : List X} {before start end to : ℕ} (x : X) → InTurn Between from xs before → before ≤ start → start ≤ end → end ≤ to → Between start end x → InTurn Between from (xs ++ x ∷ []) to

-- it didn't end before all that was asked was answered
abbrev pub answers_all : Served → Bool
answers_all answer.WriteFault = false
answers_all answer.ClockFault = false
answers_all answer.Stopped = false
answers_all answer.OutOfMemory = false
answers_all other = true

-- The requests are those of the bytes that were taken, in order, and each was answered so, at the moment that the clock gave for it. Their replies, one after the other, are the bytes
-- that were given. Where the connection didn't break off these are all requests and whole replies.
pub record TakenInTurn (Answered : ℕ → ℕ → ConnRequest → Option ℕ → List ℕ → Type 0) (from to : ℕ) (input output times : List ℕ) (result : Served) : Type 0 where
  pub done : List Exchange
  pub rest : List ConnRequest
  pub requests : conn_requests input ≡ requests_in done ++ rest
  pub unsent : List ℕ
  pub replies : output ++ unsent ≡ replies_in done
  pub later : List ℕ
  pub moments : times ≡ moments_in done ++ later
  pub all : answers_all result ≡ true → (rest ≡ []) × (unsent ≡ [])
  pub answered : InTurn (λ start end (x : Exchange). Answered start end x.request x.moment x.reply) from done to
