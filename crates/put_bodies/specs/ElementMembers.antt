-- The members of an element that has a line.
use Rattle.std.specs.Prelude.{◌≡◌, ℕ, List, Some, codes}
use Rattle.json.specs.Token.{Token}
use Rattle.json.specs.Json.{Json, Members, string, number, object}
use Rattle.json.specs.Find.{InMembers, get}
use Rattle.put_bodies.specs.declared.element_members.ElementMembers.{ElementMembers}

-- the last member of the name is this string
abbrev pub HasText : List ℕ → Json → List ℕ → Type 0
HasText name j text = get name j ≡ Some (string text)

-- the last member of the name is the number of this text
abbrev pub HasNumber : List ℕ → Json → List ℕ → Type 0
HasNumber name j text = get name j ≡ Some (number text)

-- the last member of tags is an object, and these tokens begin with its members
abbrev pub HasTags : Json → List Token → Type 0
HasTags j rest = (ms : Members) × (get (codes "tags") j ≡ Some (object ms)) × InMembers rest ms

-- the members are those of these names
pub record HasMembers (j : Json) (members : ElementMembers) : Type 0 where
  pub metric : HasText (codes "metric") j members.metric.now
  pub time : HasNumber (codes "timestamp") j members.time.now
  pub value : HasNumber (codes "value") j members.value.now
  pub tags : HasTags j members.tags
