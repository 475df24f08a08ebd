-- The items of a tape, one after the other.
use Rattle.std.proofs.Common.{◌≡◌, List, [], ◌∷◌, Option, None, Some, Result, Ok, Err, OnOk, option_map, option_and_then, refl, ap, subst, ◌∙◌}
use Rattle.std.specs.Prelude.{IsSomeAnd, MatchOption}
use Rattle.json.specs.Token.{Token}
use Rattle.json.specs.Json as json
use Rattle.json.specs.Find.{BeginsWith, InItems, NextItem, as_array}
use Rattle.serde_json.specs.Data.{Data, Items, no_items, item}
use Rattle.serde_json.specs.Read.{of_items, of_json}
use Rattle.serde_json.specs.View.{items_of}
use Rattle.put_bodies.specs.BodyTapes.{GoesOnWith, HaveData}
use Rattle.put_bodies.specs.PlainBodies.{IsElement}

same_items : (a b : json.Items) → json.array a ≡ json.array b → a ≡ b
same_items a b is = cc

pub items_found : (r : Option (List Token)) (items : json.Items) (elements : List Data) → HaveData items elements → MatchOption r (as_array (json.array items) ≡ None) (λ rest. (js : json.Items) × (json.array items ≡ json.array js) × InItems rest js)
    → IsSomeAnd r (λ tokens. GoesOnWith tokens elements)
items_found None items elements have found = absurd (cc)
items_found (Some tokens) items elements have (js, same, goes) = (js, goes, subst (λ x. HaveData x elements) (same_items items js same) have)

-- what is known of the first item, and of the others
pub record IsFirst (j : json.Json) (rest : json.Items) (elements : List Data) : Type 0 where
  pub d : Data
  pub others : List Data
  pub all : elements ≡ d ∷ others
  pub plain : IsElement j
  pub read : of_json j ≡ Some d
  pub have : HaveData rest others

same_data : (d e : Data) (ds es : Items) → ◌≡◌ {A = Option Items} (Some (item d ds)) (Some (item e es)) → (d ≡ e) × (ds ≡ es)
same_data d e ds es is = (cc, cc)

by_data : (j : json.Json) (rest : json.Items) (elements : List Data) (o : Option Data) (p : Option Items) → HaveData (json.item j rest) elements → of_json j ≡ o → of_items rest ≡ p → option_and_then (λ d. option_map (item d) p) o ≡ Some (items_of elements)
    → IsFirst j rest elements
by_data j rest elements None p have oe pe is = absurd (cc)
by_data j rest elements (Some d) None have oe pe is = absurd (cc)
by_data j rest [] (Some d) (Some ds) have oe pe is = absurd (cc)
by_data j rest (e ∷ es) (Some d) (Some ds) have oe pe is =
    let same = same_data d e ds (items_of es) is in
    record {
      d = e;
      others = es;
      all = refl;
      plain = have.plain.0;
      read = oe ∙ ap (λ x. Some x) same.0;
      have = record { plain = have.plain.1; same = pe ∙ ap (λ x. Some x) same.1 };
    }

pub first_of : (j : json.Json) (rest : json.Items) (elements : List Data) → HaveData (json.item j rest) elements → IsFirst j rest elements
first_of j rest elements have = by_data j rest elements (of_json j) (of_items rest) have refl refl have.same

pub none_left : (elements : List Data) → HaveData json.no_items elements → elements ≡ []
none_left [] have = refl
none_left (d ∷ elements) have = let is : ◌≡◌ {A = Option Items} (Some no_items) (Some (item d (items_of elements))) = have.same in absurd (cc)

-- the next item of the tokens, as their elements have it
pub record TakesFirst (tokens later : List Token) (elements : List Data) : Type 0 where
  pub j : json.Json
  pub rest : json.Items
  pub begins : BeginsWith tokens j
  pub goes : InItems later rest
  pub first : IsFirst j rest elements

pub taken : (tokens new later : List Token) (elements : List Data) → GoesOnWith tokens elements → NextItem tokens (Some new) later → TakesFirst new later elements
taken tokens new later elements (items, goes, have) next =
    let n = next items goes in
    record { j = n.0; rest = n.1; begins = n.3; goes = n.4; first = first_of n.0 n.1 elements (subst (λ x. HaveData x elements) n.2 have) }

pub none_taken : (tokens later : List Token) (elements : List Data) → GoesOnWith tokens elements → NextItem tokens None later → elements ≡ []
none_taken tokens later elements (items, goes, have) next = none_left elements (subst (λ x. HaveData x elements) (next items goes) have)

pub on_ok : {T E P Q : Type 0} (r : Result T E) → (P → Q) → OnOk r P → OnOk r Q
on_ok (Ok x) f p = f p
on_ok (Err e) f p = tt
