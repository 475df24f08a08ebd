use Rattle.std.proofs.Common.{◌≤◌, length, refl, sym, subst, List, take, drop, suc, arith}
use Rattle.std.proofs.lemmas.List.Elements.{All-append, All-nil}
use Rattle.std.specs.Prelude.{All}
use Rattle.json_reply.specs.Replies.{IsReady}
use Rattle.json_reply.specs.declared.reply.Group.{Group}
use Rattle.query_text.specs.declared.queries.Sub.{Sub}
use Rattle.metric_scan.specs.declared.fault.AskFault.TheVariants.{OutOfMemory}
use Rattle.query_run.specs.AskedQueries.{QuerySays}
use Rattle.metric_scan.proofs.NameReads.{passed_on}
use Rattle.query_run.proofs.AllSubs.{progress_none, all_done, done_more, one_refused, no_room, cut_at, at_subs, all_answered}
use Rattle.query_run.proofs.question.ask.Goals as goal

pub loop-sub-init : goal.loop-sub-init
loop-sub-init g c = record {
  progress = progress_none c.args.query.now _ c.new-groups.result.items c.new-groups.ensures.items;
  ready = subst (All IsReady) (sym {A = List Group} c.new-groups.ensures.items) (All-nil IsReady);
  grows = omega arith;
}

pub returns-in_err-more-clause-says : goal.returns-in_err-more-clause-says
returns-in_err-more-clause-says g c =
    let subs = c.args.query.now.subs in
    let i = c.loop-sub.sub-index in
    let w = at_subs subs c.list-sub-items.result.now i c.sub-item.result c.list-sub-items.ensures c.loop-sub-test.true c.sub-item.is in
    passed_on (λ r. QuerySays c.args.query.now (g.R.Rows.seen c.args.names.now.rows) r (g.R.Rows.seen c.work.new.names.rows)) c.in_err-more.field-0.0 c.from_residual.result c.from_residual.ensures.1
    (one_refused c.args.query.now c.sub-item.result _ _ _ (take i subs) (drop (suc i) subs) _ c.in_err-more.field-0.0 (cut_at c.args.query.now subs i c.sub-item.result refl w.0 w.1) c.loop-sub.invariant.progress c.in_err-more.ensures.says)

pub returns-in_err-add-clause-says : goal.returns-in_err-add-clause-says
returns-in_err-add-clause-says g c =
    let subs = c.args.query.now.subs in
    let i = c.loop-sub.sub-index in
    let w = at_subs subs c.list-sub-items.result.now i c.sub-item.result c.list-sub-items.ensures c.loop-sub-test.true c.sub-item.is in
    passed_on (λ r. QuerySays c.args.query.now (g.R.Rows.seen c.args.names.now.rows) r (g.R.Rows.seen c.work.new.names.rows)) OutOfMemory c.from_residual-in_err-add.result c.from_residual-in_err-add.ensures.1
    (one_refused c.args.query.now c.sub-item.result _ _ _ (take i subs) (drop (suc i) subs) _ OutOfMemory (cut_at c.args.query.now subs i c.sub-item.result refl w.0 w.1) c.loop-sub.invariant.progress (no_room c.args.query.now c.sub-item.result _ _ _ c.in_ok-more.ensures.says))

pub loop-sub-preserved : goal.loop-sub-preserved
loop-sub-preserved g c =
    let subs = c.args.query.now.subs in
    let i = c.loop-sub.sub-index in
    let w = at_subs subs c.list-sub-items.result.now i c.sub-item.result c.list-sub-items.ensures c.loop-sub-test.true c.sub-item.is in
    record {
      progress = done_more c.args.query.now _ _ _ subs i c.sub-item.result c.loop-sub.groups.items c.in_ok-more.more.items c.add.new.groups.items w.0 w.1 c.loop-sub.invariant.progress c.in_ok-more.ensures.says c.in_ok-add.ensures;
      ready = subst (All IsReady) (sym {A = List Group} c.in_ok-add.ensures) (All-append IsReady c.loop-sub.groups.items c.in_ok-more.more.items c.loop-sub.invariant.ready c.in_ok-more.ensures.ready);
      grows = let a = c.loop-sub.invariant.grows in let b = c.in_ok-more.ensures.stops.grows in omega (arith, a, b);
    }

pub returns-clause-says : goal.returns-clause-says
returns-clause-says g c = all_answered c.args.query.now _ _ _ (all_done c.args.query.now _ _ c.args.query.now.subs c.loop-sub.sub-index _ refl (subst (λ (l : List Sub). length l ≤ c.loop-sub.sub-index) c.list-sub-items.ensures c.loop-sub-test.false) c.loop-sub.invariant.progress)
