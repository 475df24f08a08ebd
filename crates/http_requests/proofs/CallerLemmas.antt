-- What a caller's proof cites of the words in `specs/HttpSessions`.
use Rattle.std.proofs.Common.{◌≡◌, ℕ, List, [], ◌∷◌, ◌++◌, sym, ap, ◌∙◌, append_assoc, append-nil}
use Rattle.http_requests.specs.declared.http_call.Call.{Call}
use Rattle.http_requests.specs.HttpRequests.{requests_of}
use Rattle.http_requests.specs.HttpSessions.{Gives, HasGiven, Waits, to_come}
use Rattle.http_requests.specs.HttpUnread.{Unread}

-- before anything was fed
pub given_none : (new : Unread) → ((more : List ℕ) → to_come new more ≡ requests_of more) → HasGiven [] [] new
given_none new all more = sym (all more)

-- a piece was fed
pub given_fed : (old new : Unread) (fed piece : List ℕ) (given : List Call) → HasGiven fed given old → ((more : List ℕ) → to_come new more ≡ to_come old (piece ++ more)) → HasGiven (fed ++ piece) given new
given_fed old new fed piece given h feeds more = ap requests_of (append_assoc fed piece more) ∙ h (piece ++ more) ∙ ap (λ calls. given ++ calls) (sym (feeds more))

-- a turn gave a request
pub given_next : (old new : Unread) (fed : List ℕ) (given : List Call) (call : Call) → HasGiven fed given old → Gives old call new → HasGiven fed (given ++ call ∷ []) new
given_next old new fed given call h g more = h more ∙ ap (λ calls. given ++ calls) (g.next more) ∙ sym (append_assoc given (call ∷ []) (to_come new more))

-- a turn gave none
pub given_wait : (old new : Unread) (fed : List ℕ) (given : List Call) → HasGiven fed given old → Waits old new → HasGiven fed given new
given_wait old new fed given h w more = h more ∙ ap (λ calls. given ++ calls) (sym (w.same more))

-- all requests of the bytes were given where a turn gave none
pub given_all : (old new : Unread) (fed : List ℕ) (given : List Call) → HasGiven fed given old → Waits old new → requests_of fed ≡ given
given_all old new fed given h w = ap requests_of (sym (append-nil fed)) ∙ h [] ∙ ap (λ calls. given ++ calls) w.none ∙ append-nil given
