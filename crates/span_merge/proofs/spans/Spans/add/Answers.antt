use Rattle.std.proofs.Common.{◌∙◌, subst, sym, List}
use Rattle.span_merge.specs.Spans.{KeptSpan, TakesLater, HasAdded}
use Rattle.span_merge.specs.Places.{spans_of}
use Rattle.span_merge.proofs.PlaceLemmas.{front_ordered, front_may, has_put, same_all, still_ordered, takes, has_added}
use Rattle.span_merge.proofs.KeptLemmas.{on_ok, on_err}
use Rattle.span_merge.proofs.spans.Spans.add.Goals as goal

pub add_last-requires-clause-ordered : goal.add_last-requires-clause-ordered
add_last-requires-clause-ordered c =
    front_ordered (spans_of c.self.inside.before.items c.self.inside.behind.items) c.step_back.new.before.items c.step_back.new.before.items c.step_back.new.behind.items c.args.pairs.now
    (c.in_ok-step_back.ensures.same ∙ c.in_ok-step_forward.ensures.same) c.self.invariant c.in_ok-step_back.ensures.above

pub add_last-requires-clause-later : goal.add_last-requires-clause-later
add_last-requires-clause-later c =
    let start = spans_of c.self.inside.before.items c.self.inside.behind.items in
    front_may start c.step_back.new.before.items c.step_back.new.before.items c.step_back.new.behind.items c.args.pairs.now
    (c.in_ok-step_back.ensures.same ∙ c.in_ok-step_forward.ensures.same) c.self.invariant c.in_ok-step_back.ensures.above c.args.dots
    (takes c.args.how c.args.pairs.now start c.args.dots (subst (λ (l : List KeptSpan). TakesLater c.args.how l c.args.pairs.now c.args.dots) (sym c.self.view_is) c.requires.later))

pub invariant_of-self-2 : goal.invariant_of-self-2
invariant_of-self-2 c =
    still_ordered (spans_of c.self.inside.before.items c.self.inside.behind.items) c.step_back.new.before.items c.add_last.new.list.items c.step_back.new.behind.items c.args.pairs.now
    (c.in_ok-step_back.ensures.same ∙ c.in_ok-step_forward.ensures.same) c.self.invariant c.in_ok-step_back.ensures.above c.add_last.result c.args.how c.args.dots c.add_last.ensures.ok c.add_last.ensures.err

pub returns-clause-ok : goal.returns-clause-ok
returns-clause-ok c =
    let start = spans_of c.self.inside.before.items c.self.inside.behind.items in
    on_ok c.add_last.result
    (λ h. subst (λ (l : List KeptSpan). HasAdded c.args.how l c.args.pairs.now c.args.dots (spans_of c.add_last.new.list.items c.step_back.new.behind.items)) c.self.view_is
    (has_added c.args.how c.args.pairs.now start (spans_of c.add_last.new.list.items c.step_back.new.behind.items) c.args.dots
    (has_put start c.step_back.new.before.items c.add_last.new.list.items c.step_back.new.behind.items c.args.pairs.now
    (c.in_ok-step_back.ensures.same ∙ c.in_ok-step_forward.ensures.same) c.self.invariant c.in_ok-step_back.ensures.above c.args.how c.args.dots h)))
    c.add_last.ensures.ok

pub returns-clause-err : goal.returns-clause-err
returns-clause-err c =
    let start = spans_of c.self.inside.before.items c.self.inside.behind.items in
    on_err c.add_last.result
    (λ e. same_all start c.step_back.new.before.items c.add_last.new.list.items c.step_back.new.behind.items c.args.pairs.now
    (c.in_ok-step_back.ensures.same ∙ c.in_ok-step_forward.ensures.same) c.self.invariant c.in_ok-step_back.ensures.above e ∙ c.self.view_is)
    c.add_last.ensures.err
