use Rattle.std.proofs.Common.{◌≡◌, ap, arith, length}
use Rattle.std.proofs.lemmas.Result.{err_from_is_err_and}
use Rattle.std.proofs.lemmas.List.{drop_more}
use Rattle.query_requests.specs.JsonParts.{all_seen}
use Rattle.query_requests.proofs.JsonLemmas.{part_fault}
use Rattle.query_requests.proofs.json_filters.part_filters.Goals as goal

pub returns-in_err-filter : goal.returns-in_err-filter
returns-in_err-filter c =
    let p = err_from_is_err_and c.from_residual.result c.from_residual.ensures.1 in
    let n : c.len.result ≡ length c.loop-parts.filters.items = (let e = c.len.ensures in let o = c.loop-parts.filters.ok.0 in omega (arith, e, o)) in
    rw (p.1, p.2) (part_fault c.loop-parts.filters.items c.len.result _ _ _ c.in_err-filter.field-0.0 _ n (ap all_seen (drop_more c.args.listed.now c.loop-parts.parts-index _ c.loop-parts-test.true)) c.in_err-filter.ensures c.loop-parts.invariant)
