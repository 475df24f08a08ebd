-- The elements of a body that is text.
use Rattle.std.proofs.Common.{◌≡◌, ℕ, List, Some, ap, sym, ◌∙◌}
use Rattle.std.specs.Str.{IsUtf8}
use Rattle.std.proofs.lemmas.Str.{is_utf8-from_IsUtf8}
use Rattle.serde_json.specs.Data.{Data, array}
use Rattle.serde_json.specs.Read.{read}
use Rattle.serde_json.specs.View.{items_of}
use Rattle.http_requests.specs.JsonBodies.{json_of}
use Rattle.put_bodies.specs.BodyLines.{AreLinesOf, HasLines}
use Rattle.http_put.specs.PutLines.{IsListOf}

reads_so : (body : List ℕ) (d : Data) → IsUtf8 body → read body ≡ Some d → json_of body ≡ Some d
unfolding json_of
reads_so body d text is = rw (is_utf8-from_IsUtf8 body text) is

pub list_of_lines : (body text : List ℕ) (lines : List (List ℕ)) → text ≡ body → IsUtf8 body → HasLines text lines → (elements : List Data) × IsListOf body elements × AreLinesOf lines elements
list_of_lines body text lines same utf8 has = (has.elements, reads_so body (array (items_of has.elements)) utf8 (ap read (sym same) ∙ has.reads), has.are)
