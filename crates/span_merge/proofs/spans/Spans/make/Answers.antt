use Rattle.span_merge.proofs.PlaceLemmas.{no_spans}
use Rattle.span_merge.proofs.spans.Spans.make.Goals as goal

pub invariant_of-result : goal.invariant_of-result
invariant_of-result c = rw (c.new.ensures.items, c.new-2.ensures.items) no_spans
