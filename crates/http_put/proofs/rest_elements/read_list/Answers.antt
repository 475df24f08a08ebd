use Rattle.std.proofs.Common.{◌≡◌, option_map, subst}
use Rattle.serde_json.specs.Data.{array}
use Rattle.serde_json.specs.View.{items_of, view}
use Rattle.http_requests.specs.JsonBodies.{json_of}
use Rattle.http_put.proofs.RestValues.{value_is}
use Rattle.http_put.proofs.rest_elements.read_list.Goals as goal

pub returns-clause-ok : goal.returns-clause-ok
returns-clause-ok c elements list =
    value_is (view c.in-Some.value) (array (items_of elements)) (json_of c.args.body.now) (subst (λ o. option_map view o ≡ json_of c.args.body.now) c.in-Some.is c.in-Ok.ensures) list
