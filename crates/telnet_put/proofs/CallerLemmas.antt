-- What a caller's proof cites of the words in `specs/Sessions`.
use Rattle.std.proofs.Common.{◌≡◌, ℕ, List, [], ◌∷◌, ◌++◌, sym, ap, ◌∙◌, append_assoc, append-nil}
use Rattle.telnet_put.specs.Requests.{Request, requests_of}
use Rattle.telnet_put.specs.Sessions.{ComesAs, Gives, HasGiven, Waits, to_come}
use Rattle.telnet_put.specs.Unread.{Unread}

-- before anything was fed
pub given_none : (new : Unread) → ((more : List ℕ) → to_come new more ≡ requests_of more) → HasGiven [] [] new
given_none new all more = sym (all more)

-- a piece was fed
pub given_fed : (old new : Unread) (fed piece : List ℕ) (given : List Request) → HasGiven fed given old → ((more : List ℕ) → to_come new more ≡ to_come old (piece ++ more)) → HasGiven (fed ++ piece) given new
given_fed old new fed piece given h feeds more = ap requests_of (append_assoc fed piece more) ∙ h (piece ++ more) ∙ ap (λ requests. given ++ requests) (sym (feeds more))

-- a request that was found was used up
pub found_given : (old mid new : Unread) (request : Request) → ComesAs old mid → Gives mid request new → Gives old request new
found_given old mid new request same g = record { next = λ more. sym (same more) ∙ g.next more; last = g.last }

-- a request was used up
pub given_next : (old new : Unread) (fed : List ℕ) (given : List Request) (request : Request) → HasGiven fed given old → Gives old request new → HasGiven fed (given ++ request ∷ []) new
given_next old new fed given request h g more = h more ∙ ap (λ requests. given ++ requests) (g.next more) ∙ sym (append_assoc given (request ∷ []) (to_come new more))

-- none was found
pub given_wait : (old new : Unread) (fed : List ℕ) (given : List Request) → HasGiven fed given old → Waits old new → HasGiven fed given new
given_wait old new fed given h w more = h more ∙ ap (λ requests. given ++ requests) (sym (w.same more))

-- all requests of the bytes were given where none was found
pub given_all : (old new : Unread) (fed : List ℕ) (given : List Request) → HasGiven fed given old → Waits old new → requests_of fed ≡ given
given_all old new fed given h w = ap requests_of (sym (append-nil fed)) ∙ h [] ∙ ap (λ requests. given ++ requests) w.none ∙ append-nil given
