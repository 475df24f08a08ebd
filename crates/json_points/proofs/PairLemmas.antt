-- Pairs read one after the other.
use Rattle.std.proofs.Common.{◌≡◌, ℕ, ◌+◌, List, [], ◌∷◌, ◌++◌, length, refl, sym, ap, ◌∙◌, append_assoc, arith, Result, Ok, Err}
use Rattle.std.proofs.lemmas.List.{length_push}
use Rattle.serde_json.specs.Data.{Data, Members, member}
use Rattle.tsd_base.specs.TagList.{Pair}
use Rattle.json_points.specs.declared.fault.ElementFault.{ElementFault}
use Rattle.json_points.specs.Elements.{pairs_in, pair_in, with_front, ◌>>=◌}

behind : (front : List Pair) (pair : Pair) (r : Result (List Pair) ElementFault) → with_front (front ++ pair ∷ []) r ≡ with_front front (r >>= λ pairs. Ok (pair ∷ pairs))
behind front pair (Ok pairs) = ap (λ (ps : List Pair). Ok ps) (append_assoc front (pair ∷ []) pairs)
behind front pair (Err e) = refl

pub pushed : (front new : List Pair) (key : List ℕ) (d : Data) (ms : Members) (pair : Pair) (all : Members) → pair_in (length front + 1) key d ≡ Ok pair → new ≡ front ++ pair ∷ []
    → with_front front (pairs_in (length front + 1) (member key d ms)) ≡ pairs_in 1 all → with_front new (pairs_in (length new + 1) ms) ≡ pairs_in 1 all
pushed front new key d ms pair all is n w =
    let index : length new + 1 ≡ length front + 1 + 1 = (let l = ap length n in let p = length_push front pair in omega (arith, l, p)) in
    (λ i. with_front (n i) (pairs_in (index i) ms)) ∙ behind front pair (pairs_in (length front + 1 + 1) ms)
    ∙ sym (ap (λ (r : Result Pair ElementFault). with_front front (r >>= λ p. pairs_in (length front + 1 + 1) ms >>= λ pairs. Ok (p ∷ pairs))) is) ∙ w
