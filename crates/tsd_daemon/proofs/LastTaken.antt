-- What had been answered when the last piece was taken, as a connection goes on.
use Rattle.std.proofs.Common.{◌≡◌, inl, inr, ℕ, ◌≤◌, false, List, [], ◌∷◌, ◌++◌, length, refl, sym, ap, subst, ◌∙◌, append_assoc, append-nil, arith}
use Rattle.std.specs.Prelude.{Option}
use Rattle.std.specs.List.{list_any}
use Rattle.tsd_daemon.specs.ConnPieces.{IsLast, longest_piece}
use Rattle.tsd_daemon.specs.ConnRequests.{closes_conn, conn_requests}
use Rattle.tsd_daemon.specs.Exchanges.{Exchange, replies_in, requests_in}
use Rattle.tsd_daemon.specs.LastPieces.{LastTake, TakenLast}

-- nothing was taken yet
pub no_piece_yet : TakenLast [] [] []
no_piece_yet = record {
  before = [];
  piece = [];
  bytes = refl;
  within = omega arith;
  answered = [];
  later = [];
  in_order = refl;
  requests = refl;
  open_still = refl;
  given_later = [];
  given = refl;
}

-- no take was made
pub no_take_yet : (last : Option (List ℕ)) → LastTake last last [] [] []
no_take_yet last = record { taken = no_piece_yet; gave = inr (refl, refl) }

-- one more request was answered
pub one_answered : (last last' : Option (List ℕ)) (done : List Exchange) (x : Exchange) (input output : List ℕ) → LastTake last last' done input output → LastTake last last' (done ++ x ∷ []) input output
one_answered last last' done x input output l =
    let t = l.taken in
    record {
      taken = record {
        before = t.before;
        piece = t.piece;
        bytes = t.bytes;
        within = t.within;
        answered = t.answered;
        later = t.later ++ x ∷ [];
        in_order = ap (λ d. d ++ x ∷ []) t.in_order ∙ append_assoc t.answered t.later (x ∷ []);
        requests = t.requests;
        open_still = t.open_still;
        given_later = t.given_later;
        given = t.given;
      };
      gave = l.gave;
    }

-- more was given
pub more_given : (last last' : Option (List ℕ)) (done : List Exchange) (input output given : List ℕ) → LastTake last last' done input output → LastTake last last' done input (output ++ given)
more_given last last' done input output given l =
    let t = l.taken in
    record {
      taken = record {
        before = t.before;
        piece = t.piece;
        bytes = t.bytes;
        within = t.within;
        answered = t.answered;
        later = t.later;
        in_order = t.in_order;
        requests = t.requests;
        open_still = t.open_still;
        given_later = t.given_later ++ given;
        given = ap (λ o. o ++ given) t.given ∙ append_assoc (replies_in t.answered) t.given_later given;
      };
      gave = l.gave;
    }

-- a piece was taken where all that came before was answered, and all replies were given
pub piece_taken : (last last' : Option (List ℕ)) (done : List Exchange) (input output piece : List ℕ) → conn_requests input ≡ requests_in done → list_any closes_conn (requests_in done) ≡ false → output ≡ replies_in done → length piece ≤ longest_piece → IsLast last' piece
    → LastTake last last' done (input ++ piece) output
piece_taken last last' done input output piece all still given within is = record {
  taken = record {
    before = input;
    piece = piece;
    bytes = refl;
    within = within;
    answered = done;
    later = [];
    in_order = sym (append-nil done);
    requests = all;
    open_still = ap (list_any closes_conn) all ∙ still;
    given_later = [];
    given = given ∙ sym (append-nil (replies_in done));
  };
  gave = inl is;
}

-- no take was made since
pub none_taken_since : (last last' last'' : Option (List ℕ)) (done : List Exchange) (input output more : List ℕ) → more ≡ [] → last'' ≡ last' → LastTake last last' done input output → LastTake last last'' done (input ++ more) output
none_taken_since last last' last'' done input output more none same l =
    subst (λ (i : List ℕ). LastTake last last'' done i output) (sym (ap (λ m. input ++ m) none ∙ append-nil input)) (subst (λ (t : Option (List ℕ)). LastTake last t done input output) (sym same) l)
