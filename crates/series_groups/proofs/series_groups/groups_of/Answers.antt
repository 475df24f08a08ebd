use Rattle.std.proofs.Common.{Err, List, length, map, All, sym, ap, subst, ◌∙◌}
use Rattle.std.specs.Prelude.{Contains}
use Rattle.std.proofs.lemmas.List.Elements.{All-push}
use Rattle.json_reply.specs.Replies.{IsReady}
use Rattle.query_text.specs.declared.queries.Query.{Query}
use Rattle.query_text.specs.declared.queries.Sub.{Sub}
use Rattle.series_groups.specs.SeriesGroups.{GivesGroups, KeepsFor, AreSeriesFor, group_with, members_in}
use Rattle.series_groups.specs.QueryAnswers.{answer, down_by}
use Rattle.series_groups.specs.NamedSeries.{points_in}
use Rattle.series_groups.specs.KeptSeries.{PointsOf, KeepsWithin, all_with_points}
use Rattle.series_groups.specs.declared.named_series.Series.{Series}
use Rattle.series_groups.proofs.GroupLemmas.{passed_on, done, goes_on, fails, values, value_here, value_later}
use Rattle.series_groups.proofs.SeriesLemmas.{answer_groups, members_all, members_alone}
use Rattle.series_groups.proofs.series_groups.groups_of.Goals as goal

-- so the members of a group are kept
members_kept : (q : Query) (s : Sub) (of : PointsOf) (series m : List Series) → AreSeriesFor q s of series → Contains (members_in s series) m → KeepsFor q s of m
members_kept q s of series m are c = members_all (λ (x : Series). KeepsWithin (down_by q.ms s.how s.down) q.start q.end x.kept (of x.tags)) s series are.keeps m c

pub group_with-requires-clause-kept : goal.group_with-requires-clause-kept
group_with-requires-clause-kept c = (
  c.requires.series.0,
  members_kept c.args.query.now c.args.sub.now c.requires.series.0 c.args.series.items c.in-Some.members.items c.requires.series.1
      (c.loop-members.invariant.within c.in-Some.members.items (value_here c.loop-members.members-iterator (c.in-Some.field-0-0, c.in-Some.members) c.next.new.self c.in-Some.ensures.steps)),
)

pub group_with-requires-clause-alone : goal.group_with-requires-clause-alone
group_with-requires-clause-alone c = λ none.
    members_alone c.args.sub.now c.requires.series.0 c.args.series.items c.requires.series.1.rising none c.in-Some.members.items
    (c.loop-members.invariant.within c.in-Some.members.items (value_here c.loop-members.members-iterator (c.in-Some.field-0-0, c.in-Some.members) c.next.new.self c.in-Some.ensures.steps))

pub returns-in_err-group_with-clause-answers : goal.returns-in_err-group_with-clause-answers
returns-in_err-group_with-clause-answers c = λ of are.
    let q = c.args.query.now in
    let s = c.args.sub.now in
    let all = map (group_with q s of) (members_in s c.args.series.items) in
    let here = c.loop-members.invariant.within c.in-Some.members.items (value_here c.loop-members.members-iterator (c.in-Some.field-0-0, c.in-Some.members) c.next.new.self c.in-Some.ensures.steps) in
    passed_on (λ r. GivesGroups r (answer q s (points_in s.metric (all_with_points of c.args.series.items)))) c.in_err-group_with.field-0.0 c.from_residual-in_err-group_with.result c.from_residual-in_err-group_with.ensures.1
    (subst (GivesGroups (Err c.in_err-group_with.field-0.0)) (sym (answer_groups q s of c.args.series.items are.rising are.some))
    (fails (group_with q s of) c.loop-members.groups.items (values c.loop-members.members-iterator) all (c.loop-members.invariant.groups of are) c.in-Some.members.items (values c.next.new.self) (ap values c.in-Some.ensures.steps) c.in_err-group_with.field-0.0
    (c.in_err-group_with.ensures.answers of (members_kept q s of c.args.series.items c.in-Some.members.items are here))))

pub loop-members-preserved : goal.loop-members-preserved
loop-members-preserved c =
    let q = c.args.query.now in
    let s = c.args.sub.now in
    let here = c.loop-members.invariant.within c.in-Some.members.items (value_here c.loop-members.members-iterator (c.in-Some.field-0-0, c.in-Some.members) c.next.new.self c.in-Some.ensures.steps) in
    record {
      groups = λ of are.
          goes_on (group_with q s of) c.loop-members.groups.items (values c.loop-members.members-iterator) (map (group_with q s of) (members_in s c.args.series.items)) (c.loop-members.invariant.groups of are) c.in-Some.members.items (values c.next.new.self) (ap values c.in-Some.ensures.steps) c.in_ok-group_with.field-0 c.push.new.list.items
          c.in_ok-push.ensures (c.in_ok-group_with.ensures.answers of (members_kept q s of c.args.series.items c.in-Some.members.items are here));
      within = λ m i. c.loop-members.invariant.within m (value_later c.loop-members.members-iterator (c.in-Some.field-0-0, c.in-Some.members) c.next.new.self c.in-Some.ensures.steps m i);
      ready = subst (All IsReady) (sym c.in_ok-push.ensures) (All-push IsReady c.loop-members.groups.items c.in_ok-group_with.field-0 c.loop-members.invariant.ready c.in_ok-group_with.ensures.ready);
    }

pub returns-clause-answers : goal.returns-clause-answers
returns-clause-answers c = λ of are.
    let q = c.args.query.now in
    let s = c.args.sub.now in
    let all = map (group_with q s of) (members_in s c.args.series.items) in
    answer_groups q s of c.args.series.items are.rising are.some
    ∙ done (group_with q s of) c.loop-members.groups.items (values c.loop-members.members-iterator) all (c.loop-members.invariant.groups of are) (ap (λ l. length (values l)) c.in-None.ensures.steps.0)
