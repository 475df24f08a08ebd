-- The lines of a tape's elements, one after the other.
use Rattle.std.proofs.Common.{◌≡◌, ℕ, Bool, true, false, List, [], ◌∷◌, ◌++◌, Option, None, Some, IfSome, refl, sym, ap, subst, ◌∙◌, append_assoc, append-nil}
use Rattle.json.specs.Token.{Token}
use Rattle.serde_json.specs.Data.{Data}
use Rattle.put_bodies.specs.BodyLines.{AreLinesOf, HasLines, IsTurn}
use Rattle.put_bodies.specs.BodyTapes.{GoesOnWith, IsTapeOf}
use Rattle.put_bodies.proofs.LineTexts.{one_more_line}

pub record TapeSoFar (elements : List Data) (now : List Token) (lines : List (List ℕ)) : Type 0 where
  pub done : List Data
  pub rest : List Data
  pub all : elements ≡ done ++ rest
  pub goes : GoesOnWith now rest
  pub are : AreLinesOf lines done

pub tape_start : (elements : List Data) (tokens : List Token) (lines : List (List ℕ)) → lines ≡ [] → GoesOnWith tokens elements → TapeSoFar elements tokens lines
tape_start elements tokens lines none goes = record { done = []; rest = elements; all = refl; goes = goes; are = subst (λ (l : List (List ℕ)). AreLinesOf l []) (sym none) tt }

pub tape_more : (elements : List Data) (now later : List Token) (lines more : List (List ℕ)) (line : List ℕ) (b : Bool) (so : TapeSoFar elements now lines) → b ≡ true → IsTurn so.rest b line later → more ≡ lines ++ line ∷ [] → TapeSoFar elements later more
tape_more elements now later lines more line b so is turn push = at (subst (λ x. IsTurn so.rest x line later) is turn)
  where
    at : IsTurn so.rest true line later → TapeSoFar elements later more
    at (d, rest, first, of, goes) = record {
      done = so.done ++ d ∷ [];
      rest = rest;
      all = so.all ∙ ap (λ (x : List Data). so.done ++ x) first ∙ sym (append_assoc so.done (d ∷ []) rest);
      goes = goes;
      are = subst (λ (l : List (List ℕ)). AreLinesOf l (so.done ++ d ∷ [])) (sym push) (one_more_line lines so.done line d so.are of);
    }

pub tape_end : (elements : List Data) (now later : List Token) (lines : List (List ℕ)) (line : List ℕ) (b : Bool) (so : TapeSoFar elements now lines) → b ≡ false → IsTurn so.rest b line later → AreLinesOf lines elements
tape_end elements now later lines line b so is turn =
    let none : so.rest ≡ [] = subst (λ x. IsTurn so.rest x line later) is turn in
    subst (AreLinesOf lines) (sym (so.all ∙ ap (λ (x : List Data). so.done ++ x) none ∙ append-nil so.done)) so.are

-- the lines of the tape of a text
pub tape_has : (r : Option (List (List ℕ))) (text : List ℕ) (tape tokens : List Token) → (t : (elements : List Data) × IsTapeOf text tape elements) → ((text : List ℕ) (elements : List Data) → IsTapeOf text tape elements → GoesOnWith tokens elements)
    → ((elements : List Data) → GoesOnWith tokens elements → IfSome r (λ lines. AreLinesOf lines elements)) → IfSome r (HasLines text)
tape_has None text tape tokens t goes are = tt
tape_has (Some lines) text tape tokens (elements, t) goes are = record { elements = elements; reads = t.reads; are = are elements (goes text elements t) }
