-- The elements of a body.
use Rattle.std.proofs.Common.{◌≡◌, List, [], ◌∷◌, map, refl, sym, ap, ◌∙◌, Some}
use Rattle.serde_json.specs.Data.{Data}
use Rattle.serde_json.specs.Find.{as_array}
use Rattle.serde_json.specs.View.{items_of, items_view, view}
use Rattle.serde_json.specs.declared.value.Value.{Value}
use Rattle.http_api.specs.CallWork.{elements_by, elements_of, items_in}

pub items_back : (ds : List Data) → items_in (items_of ds) ≡ ds
items_back [] = refl
items_back (d ∷ ds) = ap (λ l. d ∷ l) (items_back ds)

-- a list has the elements of its values
pub list_elements : (body : Data) (values : List Value) → Some (items_view values) ≡ as_array body → elements_of body ≡ Some (map view values)
list_elements body values is = ap (elements_by body) (sym is) ∙ ap Some (items_back (map view values))
