use Rattle.std.proofs.Common.{◌≡◌, ◌++◌, Some, rules}
use Rattle.serde_json.specs.Find.{as_array}
use Rattle.serde_json.specs.View.{items_view, view}
use Rattle.http_put.proofs.RestValues.{enough_values, values_are, values_behind}
use Rattle.http_put.proofs.rest_elements.elements_behind.Goals as goal

pub behind-requires : goal.behind-requires
behind-requires c =
    let found : Some (items_view c.as_slice.result.now) ≡ as_array (view c.args.list.now) = search rules in
    enough_values c.as_slice.result.now (view c.args.list.now) c.args.from c.requires.0 found c.requires.1 c.requires.2

pub returns : goal.returns
returns c done rest list len =
    let found : Some (items_view c.as_slice.result.now) ≡ as_array (view c.args.list.now) = search rules in
    values_behind c.as_slice.result.now c.behind.result.now c.args.from done rest c.behind.ensures (values_are c.as_slice.result.now (view c.args.list.now) (done ++ rest) found list) len
