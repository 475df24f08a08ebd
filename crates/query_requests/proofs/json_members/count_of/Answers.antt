use Rattle.std.proofs.Common.{arith, map}
use Rattle.std.proofs.lemmas.List.{length-map}
use Rattle.serde_json.specs.View.{view}
use Rattle.query_requests.proofs.JsonLemmas.{counts}
use Rattle.query_requests.proofs.json_members.count_of.Goals as goal

pub returns : goal.returns
returns c =
    let n = counts (map view c.args.items.now.items) in
    let m = length-map c.args.items.now.items view in
    let e = c.len.ensures in
    let o = c.args.items.now.ok.0 in
    omega (arith, n, m, e, o)
