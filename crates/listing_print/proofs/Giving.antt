-- Texts that are given piece by piece, one after the other.
use Rattle.std.proofs.Common.{ℕ, List, ◌++◌, sym, ap, subst, ◌∙◌, append_assoc}
use Rattle.std.specs.Prelude.{Option}
use Rattle.std.specs.Io.KnownBytes.{Appends}
use Rattle.std.proofs.KnownBytes.{Appends-trans}
use Rattle.listing_print.specs.GivenTexts.{GaveFront, GaveUpTo}

-- a text that is given up to another one, of which a front is given
pub front_on : (held held' held'' : Option (List ℕ)) (a b : List ℕ) → GaveUpTo held held' a b → GaveFront held' held'' b → GaveFront held held'' a
front_on held held' held'' a b f g = record {
  front = f.given ++ g.front;
  gives = Appends-trans held held' held'' f.given g.front f.gives g.gives;
  rest = g.rest;
  text_is = f.waited_is ∙ ap (λ xs. f.given ++ xs) g.text_is ∙ sym (append_assoc f.given g.front g.rest);
}

-- all was given
pub all_given : (held held' held'' : Option (List ℕ)) (a b : List ℕ) → GaveUpTo held held' a b → Appends held' held'' b → Appends held held'' a
all_given held held' held'' a b f g = subst (λ xs. Appends held held'' xs) (sym f.waited_is) (Appends-trans held held' held'' f.given b f.gives g)
