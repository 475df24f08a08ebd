use Rattle.std.proofs.Common.{ap, ◌∙◌}
use Rattle.tsd_base.specs.declared.kinds.Kind.TheVariants.{Metric, TagKey, TagValue}
use Rattle.listing_fix.specs.Steps.{greatest_in}
use Rattle.listing_fix.proofs.CounterWrites.{all_counted}
use Rattle.listing_fix.proofs.counters.set_counters.Goals as goal

pub returns-clause-told : goal.returns-clause-told
returns-clause-told c =
    all_counted c.args.widths c.greatest_in-metrics.result c.greatest_in-keys.result c.greatest_in-values.result c.args.cells.items c.count_to.new.cells.items c.count_to-2.new.cells.items c.count_to-3.new.cells.items
    (c.greatest_in-metrics.ensures ∙ ap (greatest_in c.args.widths Metric) c.deref.ensures.value) (c.greatest_in-keys.ensures ∙ ap (greatest_in c.args.widths TagKey) c.deref-2.ensures.value)
    (c.greatest_in-values.ensures ∙ ap (greatest_in c.args.widths TagValue) c.deref-3.ensures.value) c.in_ok-count_to.ensures.told c.in_ok-count_to-2.ensures.told c.in_ok-count_to-3.ensures.told
