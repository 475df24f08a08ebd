-- A body that is a list of plain elements reads as the list of their data.
use Rattle.std.proofs.Common.{◌≡◌, ℕ, List, Option, Some, None, option_map, refl, ap, ◌∙◌}
use Rattle.std.specs.Prelude.{IsSome}
use Rattle.json.specs.Token.{Token}
use Rattle.json.specs.Json as json
use Rattle.json.specs.Find.{BeginsWith}
use Rattle.serde_json.specs.Data.{Data, array}
use Rattle.put_bodies.specs.BodyTapes.{IsTapeOf}
use Rattle.put_bodies.specs.PlainBodies.{AreElements, IsElementList}
use Rattle.put_bodies.proofs.ReadBodies.{document_reads}
use Rattle.put_bodies.proofs.PlainReads.{items_read, list_depth}

abbrev IsTape : List ℕ → List Token → Type 0
IsTape text tape = (elements : List Data) × IsTapeOf text tape elements

list_body : (text : List ℕ) (tape : List Token) (js : json.Items) → json.document text ≡ Some (json.array js) → BeginsWith tape (json.array js) → AreElements js → IsTape text tape
list_body text tape js is begins plain =
    let ds = items_read js plain in (
      ds.0,
      record {
        items = js;
        begins = begins;
        have = record { plain = plain; same = ds.1 };
        reads = document_reads text (json.array js) is (list_depth js plain) ∙ ap (option_map array) ds.1;
      },
    )

by_value : (text : List ℕ) (tape : List Token) (o : Option json.Json) → json.document text ≡ o → IsSome o → ((j : json.Json) → json.document text ≡ Some j → BeginsWith tape j)
    → ((j : json.Json) → BeginsWith tape j → IsElementList j) → IsTape text tape
by_value text tape None is some begins list = absurd (cc)
by_value text tape (Some json.null) is some begins list = absurd (list json.null (begins json.null is))
by_value text tape (Some (json.boolean b)) is some begins list = absurd (list (json.boolean b) (begins (json.boolean b) is))
by_value text tape (Some (json.number s)) is some begins list = absurd (list (json.number s) (begins (json.number s) is))
by_value text tape (Some (json.string s)) is some begins list = absurd (list (json.string s) (begins (json.string s) is))
by_value text tape (Some (json.object ms)) is some begins list = absurd (list (json.object ms) (begins (json.object ms) is))
by_value text tape (Some (json.array js)) is some begins list =
    let here = begins (json.array js) is in
    list_body text tape js is here (list (json.array js) here)

pub tape_has : (text : List ℕ) (tape : List Token) → IsSome (json.document text) → ((j : json.Json) → json.document text ≡ Some j → BeginsWith tape j)
    → ((j : json.Json) → BeginsWith tape j → IsElementList j) → (elements : List Data) × IsTapeOf text tape elements
tape_has text tape some begins list = by_value text tape (json.document text) refl some begins list
