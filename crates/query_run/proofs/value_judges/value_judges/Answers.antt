use Rattle.std.proofs.Common.{[], ◌∷◌, ◌++◌, ◌∙◌, List, length, ap, sym, refl, arith, append_assoc}
use Rattle.std.specs.Vec.Iter.{into_iter_items}
use Rattle.query_text.specs.declared.queries.Filter.{Filter}
use Rattle.query_run.proofs.ValueJudging.{made_more}
use Rattle.query_run.proofs.value_judges.value_judges.Goals as goal

pub loop-judge-preserved : goal.loop-judge-preserved
loop-judge-preserved c =
    let steps = c.in-Some.ensures.steps in
    record {
      whole = c.loop-judge.invariant.whole ∙ ap (λ (l : List Filter). c.loop-judge.yielded ++ l) steps.0 ∙ sym (append_assoc c.loop-judge.yielded (c.in-Some.judge ∷ []) (into_iter_items c.next.new.self));
      made = made_more c.loop-judge.yielded c.loop-judge.list.items c.push.new.self.items (record { judge = c.in-Some.judge; judged = c.new.result }) c.in-Some.judge c.loop-judge.invariant.made refl c.new.ensures.empty c.in_ok-push.ensures.items;
      len = omega (arith, steps.1, ap length steps.0, c.loop-judge.invariant.len);
    }
