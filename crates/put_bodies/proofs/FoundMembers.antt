-- What is found in an element is plain, or an object of plain members.
use Rattle.std.proofs.Common.{◌≡◌, ℕ, List, Bool, true, false, cond, Option, Some, None, bytes_eq, subst}
use Rattle.json.specs.Json as json
use Rattle.json.specs.Find as seen
use Rattle.put_bodies.specs.PlainBodies.{AreShallow, IsDigits, IsElement, IsShallow}

abbrev SomeShallow : Option json.Json → Type 0
SomeShallow None = Unit {0}
SomeShallow (Some j) = IsShallow j

later : (o : Option json.Json) (b : Bool) (j : json.Json) → SomeShallow o → IsShallow j → SomeShallow (seen.later_or o (cond b (Some j) None))
later (Some i) b j o h = o
later None true j o h = h
later None false j o h = tt

member_shallow : (name : List ℕ) (ms : json.Members) → AreShallow ms → SomeShallow (seen.get_member name ms)
member_shallow name json.no_members h = tt
member_shallow name (json.member k j ms) h = later (seen.get_member name ms) (bytes_eq k name) j (member_shallow name ms h.1) h.0

found_shallow : (name : List ℕ) (j : json.Json) → IsElement j → SomeShallow (seen.get name j)
found_shallow name json.null h = absurd h
found_shallow name (json.boolean b) h = absurd h
found_shallow name (json.number s) h = absurd h
found_shallow name (json.string s) h = absurd h
found_shallow name (json.array js) h = absurd h
found_shallow name (json.object ms) h = member_shallow name ms h

-- a number that is found is of digits
pub found_digits : (name : List ℕ) (j : json.Json) (s : List ℕ) → IsElement j → seen.get name j ≡ Some (json.number s) → IsDigits s
found_digits name j s h is = subst SomeShallow is (found_shallow name j h)
