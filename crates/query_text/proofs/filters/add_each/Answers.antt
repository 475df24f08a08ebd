use Rattle.std.proofs.Common.{ap}
use Rattle.std.specs.Option.{option_map}
use Rattle.std.proofs.lemmas.Result.{err_from_is_err_and}
use Rattle.query_text.proofs.Parts.{parts_last, parts_more, first_part}
use Rattle.query_text.proofs.FilterParts.{filters_push, filters_all, filters_not}
use Rattle.query_text.proofs.filters.add_each.Goals as goal

pub returns-in_err-add_filter : goal.returns-in_err-add_filter
returns-in_err-add_filter c =
    let p = err_from_is_err_and c.from_residual.result c.from_residual.ensures.1 in
    let first = first_part 44 c.loop-more.rest.now c.cut.result.0.now c.cut.ensures.before in
    rw (p.1, p.2) (filters_not c.args.group c.args.filters.now.items c.args.text.now c.loop-more.filters.items c.loop-more.rest.now c.cut.result.0.now first.0 c.in_err-add_filter.field-0.0 c.add_filter.new.filters.items c.add_filter.new.filters.items c.loop-more.invariant first.1 (c.in_err-add_filter.ensures {u = tt}))

pub loop-more-preserved : goal.loop-more-preserved
loop-more-preserved c =
    let parts = parts_more 44 c.loop-more.rest.now c.cut.result.0.now c.in-Some.more.now (option_map (λ r. r.now) c.cut.result.1) c.cut.ensures.before c.cut.ensures.behind (ap (option_map (λ r. r.now)) c.in-Some.is) in
    filters_push c.args.group c.args.filters.now.items c.args.text.now c.loop-more.filters.items c.loop-more.rest.now c.cut.result.0.now c.in-Some.more.now c.add_filter.new.filters.items c.loop-more.invariant parts (c.in_ok-add_filter.ensures {u = tt})

pub returns-in-None : goal.returns-in-None
returns-in-None c =
    let parts = parts_last 44 c.loop-more.rest.now c.cut.result.0.now (option_map (λ r. r.now) c.cut.result.1) c.cut.ensures.before c.cut.ensures.behind (ap (option_map (λ r. r.now)) c.in-None.is) in
    filters_all c.args.group c.args.filters.now.items c.args.text.now c.loop-more.filters.items c.loop-more.rest.now c.cut.result.0.now c.add_filter.new.filters.items c.loop-more.invariant parts (c.in_ok-add_filter.ensures {u = tt})
