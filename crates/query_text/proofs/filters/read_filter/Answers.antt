use Rattle.std.proofs.Common.{◌∙◌, sym, ap}
use Rattle.std.specs.Option.{option_map}
use Rattle.query_text.proofs.FilterParts.{filter_read}
use Rattle.query_text.proofs.filters.read_filter.Goals as goal

pub returns : goal.returns
returns c =
    filter_read c.args.group c.args.text.now c.cut.result.0.now c.in-Some-3.key c.in-Some.test.now c.in-Some-2.test c.cut.ensures.before (ap (option_map (λ r. r.now)) (sym c.in-Some.is) ∙ c.cut.ensures.behind)
    (sym c.in-Some-2.is ∙ c.in_ok-test.ensures {u = tt}) (sym c.in-Some-3.is ∙ c.in_ok-key.ensures {u = tt})
