use Rattle.std.proofs.Common.{List, length, ap, subst, sym, ◌∙◌, arith}
use Rattle.std.specs.Vec.Iter.{into_iter_items}
use Rattle.tsd_base.specs.TagList.{Pair}
use Rattle.series_groups.specs.SeriesGroups.{AddsMember}
use Rattle.series_groups.proofs.Members.{held_more, held_all, nothing}
use Rattle.series_groups.proofs.series_groups.by_key.Goals as goal

pub loop-one-preserved : goal.loop-one-preserved
loop-one-preserved c =
    let step = c.in-Some.ensures.steps in
    let rest = ap length step.0 in
    record {
      held = held_more c.args.sub.now c.args.series.items c.loop-one.groups c.add.new.groups c.in-Some.one (into_iter_items c.next.new.self) (into_iter_items c.loop-one.one-iterator) step.0 c.loop-one.invariant.held
          (subst (λ (k : List Pair). AddsMember c.loop-one.groups k c.in-Some.one c.add.new.groups) c.in_ok-key.ensures c.in_ok-add.ensures);
      count = omega (arith, step.1, rest, c.loop-one.invariant.count);
    }

pub returns : goal.returns
returns c =
    held_all c.args.sub.now c.args.series.items c.loop-one.groups (into_iter_items c.loop-one.one-iterator) (nothing (into_iter_items c.loop-one.one-iterator) (sym c.loop-one.invariant.count ∙ c.in-None.ensures.steps.0)) c.len.ensures.ordered c.loop-one.invariant.held
