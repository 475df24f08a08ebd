use Rattle.std.proofs.Common.{rules, ◌∙◌, ◌++◌, ◌∷◌, [], sym, ap, append_assoc}
use Rattle.link_workers.proofs.LinkLemmas.{none_ends, none_returned, one_more_ends, one_more_made, one_more_returned}
use Rattle.link_workers.proofs.link_ends.give_each.Goals as goal

pub loop-one-init : goal.loop-one-init
loop-one-init g c = record {
  whole = search rules;
  len = search rules;
  few = search rules;
  room = search rules;
  ends = search rules;
  back = none_ends _;
  counts = none_returned _;
  waiting = search rules;
  faults = search rules;
}

pub loop-one-preserved : goal.loop-one-preserved
loop-one-preserved g c = record {
  whole = c.loop-one.invariant.whole ∙ ap (λ l. c.loop-one.yielded ++ l) c.in-Some.ensures.steps.0 ∙ sym (append_assoc c.loop-one.yielded (c.in-Some.one ∷ []) _);
  len = search rules;
  few = search rules;
  room = search rules;
  ends = one_more_made (λ one. one.1) c.args.ends.now.items c.loop-one.ends.items _ c.loop-one.yielded c.in-Some.one c.loop-one.invariant.ends c.push_reserved.ensures.items;
  back = one_more_ends (λ one. g.D.Doors.shown one.0) _ _ _ c.loop-one.yielded c.in-Some.one c.loop-one.invariant.back c.give_back.ensures.back;
  counts = one_more_returned c.loop-one.yielded c.in-Some.one _ _ _ c.loop-one.invariant.counts c.give_back.ensures.counts;
  waiting = search rules;
  faults = search rules;
}
