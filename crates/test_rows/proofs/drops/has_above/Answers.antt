use Rattle.std.proofs.Common.{sym, subst}
use Rattle.std.specs.Prelude.{Contains}
use Rattle.test_rows.specs.declared.fact.Fact.{Fact}
use Rattle.test_rows.proofs.drops.has_above.Goals as goal

pub returns-then-is_above : goal.returns-then-is_above
returns-then-is_above c = λ yes.
    let a = c.is_above.ensures c.if-is_above.true in
    record {
      above = a.above;
      value = a.value;
      shown = record { version = a.shows.version; among = subst (λ (f : Fact). Contains c.args.facts.now f) a.shows.is (c.loop-fact.fact-index, c.loop-fact-test.true, sym c.fact-item.is) };
      below = a.below;
    }
