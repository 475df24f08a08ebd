-- Plain members have data, so that an object of them reads.
use Rattle.std.proofs.Common.{◌≡◌, ℕ, ◌≤◌, List, [], ◌∷◌, Option, Some, option_map, option_and_then, refl, ap, ◌∙◌, arith}
use Rattle.std.specs.Str.Parse.{digits_value}
use Rattle.json.specs.Json as json
use Rattle.json.specs.Tree as tree
use Rattle.serde_json.specs.Data.{Data, number, string, object, item, Members, no_members, put, unsigned}
use Rattle.serde_json.specs.Read.{of_json, of_items, of_members}
use Rattle.serde_json.specs.View.{items_of}
use Rattle.put_bodies.proofs.NumberLemmas.{number_of-digits}
use Rattle.put_bodies.specs.PlainBodies.{IsDigits, IsPlain, ArePlain, IsElement, AreElements, IsShallow, AreShallow}

has_number : (s : List ℕ) → IsDigits s → (d : Data) × (of_json (json.number s) ≡ Some d)
has_number s h = (number (unsigned (digits_value 10 s)), ap (option_map number) (number_of-digits s h.0 h.1 h.2))

mapped : {A B : Type 0} (f : A → B) (o : Option A) → (a : A) × (o ≡ Some a) → (b : B) × (option_map f o ≡ Some b)
mapped f o h = (f h.0, ap (option_map f) h.1)

mutual
  pub plain_reads : (j : json.Json) → IsPlain j → (d : Data) × (of_json j ≡ Some d)
  plain_reads json.null h = absurd h
  plain_reads (json.boolean b) h = absurd h
  plain_reads (json.number s) h = has_number s h
  plain_reads (json.string s) h = (string s, refl)
  plain_reads (json.array js) h = absurd h
  plain_reads (json.object ms) h = absurd h

  pub members_read : (ms : json.Members) (found : Members) → ArePlain ms → (all : Members) × (of_members ms found ≡ Some all)
  members_read json.no_members found h = (found, refl)
  members_read (json.member k j ms) found h =
      let d = plain_reads j h.0 in
      let rest = members_read ms (put k d.0 found) h.1 in
      (rest.0, ap (option_and_then (λ d. of_members ms (put k d found))) d.1 ∙ rest.1)

shallow_reads : (j : json.Json) → IsShallow j → (d : Data) × (of_json j ≡ Some d)
shallow_reads json.null h = absurd h
shallow_reads (json.boolean b) h = absurd h
shallow_reads (json.number s) h = has_number s h
shallow_reads (json.string s) h = (string s, refl)
shallow_reads (json.array js) h = absurd h
shallow_reads (json.object ms) h = mapped object (of_members ms no_members) (members_read ms no_members h)

shallow_members : (ms : json.Members) (found : Members) → AreShallow ms → (all : Members) × (of_members ms found ≡ Some all)
shallow_members json.no_members found h = (found, refl)
shallow_members (json.member k j ms) found h =
    let d = shallow_reads j h.0 in
    let rest = shallow_members ms (put k d.0 found) h.1 in
    (rest.0, ap (option_and_then (λ d. of_members ms (put k d found))) d.1 ∙ rest.1)

element_reads : (j : json.Json) → IsElement j → (d : Data) × (of_json j ≡ Some d)
element_reads json.null h = absurd h
element_reads (json.boolean b) h = absurd h
element_reads (json.number s) h = absurd h
element_reads (json.string s) h = absurd h
element_reads (json.array js) h = absurd h
element_reads (json.object ms) h = mapped object (of_members ms no_members) (shallow_members ms no_members h)

pub items_read : (js : json.Items) → AreElements js → (ds : List Data) × (of_items js ≡ Some (items_of ds))
items_read json.no_items h = ([], refl)
items_read (json.item j js) h =
    let d = element_reads j h.0 in
    let rest = items_read js h.1 in
    (d.0 ∷ rest.0, ap (option_and_then (λ d. option_map (item d) (of_items js))) d.1 ∙ ap (option_map (item d.0)) rest.1)

-- ---- and it isn't deep

plain_depth : (ms : json.Members) → ArePlain ms → tree.members_depth ms ≤ 0
plain_depth json.no_members h = omega arith
plain_depth (json.member k json.null ms) h = absurd h.0
plain_depth (json.member k (json.boolean b) ms) h = absurd h.0
plain_depth (json.member k (json.number s) ms) h = omega (arith, plain_depth ms h.1)
plain_depth (json.member k (json.string s) ms) h = omega (arith, plain_depth ms h.1)
plain_depth (json.member k (json.array js) ms) h = absurd h.0
plain_depth (json.member k (json.object os) ms) h = absurd h.0

shallow_depth : (j : json.Json) → IsShallow j → tree.depth j ≤ 1
shallow_depth json.null h = absurd h
shallow_depth (json.boolean b) h = absurd h
shallow_depth (json.number s) h = omega arith
shallow_depth (json.string s) h = omega arith
shallow_depth (json.array js) h = absurd h
shallow_depth (json.object ms) h = omega (arith, plain_depth ms h)

members_shallow : (ms : json.Members) → AreShallow ms → tree.members_depth ms ≤ 1
members_shallow json.no_members h = omega arith
members_shallow (json.member k j ms) h = omega (arith, shallow_depth j h.0, members_shallow ms h.1)

element_depth : (j : json.Json) → IsElement j → tree.depth j ≤ 2
element_depth json.null h = absurd h
element_depth (json.boolean b) h = absurd h
element_depth (json.number s) h = absurd h
element_depth (json.string s) h = absurd h
element_depth (json.array js) h = absurd h
element_depth (json.object ms) h = omega (arith, members_shallow ms h)

items_depth : (js : json.Items) → AreElements js → tree.items_depth js ≤ 2
items_depth json.no_items h = omega arith
items_depth (json.item j js) h = omega (arith, element_depth j h.0, items_depth js h.1)

pub list_depth : (js : json.Items) → AreElements js → tree.depth (json.array js) ≤ 127
list_depth js h = omega (arith, items_depth js h)
