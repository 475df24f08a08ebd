-- What was looked up in an element.
use Rattle.std.proofs.Common.{◌≡◌, ℕ, List, Option, Some, None, option_map, IfSome, sym, ap, ◌∙◌}
use Rattle.std.specs.Prelude.{MatchOption}
use Rattle.std.specs.Borrow.{Bor}
use Rattle.json.specs.Token.{Token}
use Rattle.json.specs.Json.{Json, null, boolean, number, string, array, object, Members}
use Rattle.json.specs.Find.{InMembers, as_str, as_number, as_object}

abbrev or_else : {A : Type 0} → A → Option A → A
or_else d None = d
or_else d (Some a) = a

pub str_is : (i : Json) (t : List ℕ) → Some t ≡ as_str i → i ≡ string t
str_is null t e = absurd (cc)
str_is (boolean b) t e = absurd (cc)
str_is (number s) t e = absurd (cc)
str_is (string s) t e = ap (λ o. string (or_else s o)) (sym e)
str_is (array js) t e = absurd (cc)
str_is (object ms) t e = absurd (cc)

number_is : (i : Json) (t : List ℕ) → Some t ≡ as_number i → i ≡ number t
number_is null t e = absurd (cc)
number_is (boolean b) t e = absurd (cc)
number_is (number s) t e = ap (λ o. number (or_else s o)) (sym e)
number_is (string s) t e = absurd (cc)
number_is (array js) t e = absurd (cc)
number_is (object ms) t e = absurd (cc)

pub text_at : (r : Option (Bor (List ℕ))) (o : Option Json) (i : Json) → o ≡ Some i → option_map (λ s. s.now) r ≡ as_str i → IfSome r (λ t. o ≡ Some (string t.now))
text_at None o i is e = tt
text_at (Some t) o i is e = is ∙ ap (λ x. Some x) (str_is i t.now e)

pub number_at : (r : Option (Bor (List ℕ))) (o : Option Json) (i : Json) → o ≡ Some i → option_map (λ s. s.now) r ≡ as_number i → IfSome r (λ t. o ≡ Some (number t.now))
number_at None o i is e = tt
number_at (Some t) o i is e = is ∙ ap (λ x. Some x) (number_is i t.now e)

pub tags_at : (r : Option (List Token)) (o : Option Json) (i : Json) → o ≡ Some i → MatchOption r (as_object i ≡ None) (λ rest. (ms : Members) × (i ≡ object ms) × InMembers rest ms)
    → IfSome r (λ rest. (ms : Members) × (o ≡ Some (object ms)) × InMembers rest ms)
tags_at None o i is e = tt
tags_at (Some rest) o i is e = (e.0, is ∙ ap (λ x. Some x) e.1, e.2)
