use Rattle.std.proofs.Common.{refl, ◌∙◌}
use Rattle.std.specs.Int.{w32, to_be_bytes}
use Rattle.row_key.specs.Key.{id_bytes}
use Rattle.row_scan.proofs.Lower.{length_bytes}
use Rattle.row_scan.proofs.Starting.{starts}
use Rattle.row_scan.proofs.scan.Scan.start.Goals as goal

pub returns-clause-starts : goal.returns-clause-starts
returns-clause-starts c = λ small. starts c.args.widths c.args.metric c.args.first_base c.args.last_base c.saturating_add-end.result _ refl small c.ranges.first_base.fits c.saturating_add-end.type_inv c.saturating_add-end.ensures c.hour_start.ensures.bytes (c.short.ensures ∙ c.as_slice.ensures.value ∙ c.hour_start-end_row.ensures.bytes)

pub invariant_of-result : goal.invariant_of-result
invariant_of-result c = record {
  metric = id_bytes c.args.widths.metric c.args.metric;
  from_rest = to_be_bytes w32 c.args.first_base;
  to_rest = to_be_bytes w32 c.saturating_add-end.result;
  whole = length_bytes c.args.widths.metric c.args.metric;
  from_is = c.hour_start.ensures.bytes;
  to_is = c.short.ensures ∙ c.as_slice.ensures.value ∙ c.hour_start-end_row.ensures.bytes;
}
