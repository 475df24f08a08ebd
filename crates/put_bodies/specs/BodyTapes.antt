-- Bodies that are lists of elements, on a tape.
use Rattle.std.specs.Prelude.{◌≡◌, ℕ, List, Some}
use Rattle.json.specs.Token.{Token}
use Rattle.json.specs.Json as json
use Rattle.json.specs.Find.{BeginsWith, InItems}
use Rattle.serde_json.specs.Data.{Data, array}
use Rattle.serde_json.specs.Read.{of_items, read}
use Rattle.serde_json.specs.View.{items_of}
use Rattle.put_bodies.specs.PlainBodies.{AreElements}

-- the items are plain elements of this data
pub record HaveData (items : json.Items) (elements : List Data) : Type 0 where
  pub plain : AreElements items
  pub same : of_items items ≡ Some (items_of elements)

-- the tokens go on with elements of this data
abbrev pub GoesOnWith : List Token → List Data → Type 0
GoesOnWith tokens elements = (items : json.Items) × InItems tokens items × HaveData items elements

-- the text is the list of these elements, and the tokens are those of such a list
pub record IsTapeOf (text : List ℕ) (tape : List Token) (elements : List Data) : Type 0 where
  pub items : json.Items
  pub begins : BeginsWith tape (json.array items)
  pub have : HaveData items elements
  pub reads : read text ≡ Some (array (items_of elements))
