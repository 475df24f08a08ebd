use Rattle.std.proofs.Common.{◌≡◌, ◌+◌, ◌++◌, ◌∷◌, [], ◌∙◌, sym, ap, subst, arith, List, map, take, drop}
use Rattle.std.proofs.lemmas.List.{map_push}
use Rattle.list_lemmas.proofs.MapPlaces.{behind_map, more_map, split_map}
use Rattle.serde_json.specs.View.{view}
use Rattle.serde_json.specs.Data.{Data}
use Rattle.point_put.specs.Admissions.{admission}
use Rattle.http_put.specs.PutElements.{Outcome, text_of, texts_of}
use Rattle.http_put.proofs.ElementRuns.{SoFar, begun_more, ended_more, may_have_put, none_so_far, one_more, since_start}
use Rattle.http_put.proofs.OneElement.{at_err}
use Rattle.http_put.proofs.put_elements.put_elements.Goals as goal

pub loop-element-init : goal.loop-element-init
loop-element-init g c = record {
  so_far =
      subst (λ (outs : List Outcome). SoFar (admission c.args.config.now c.args.rule.now.patterns) [] (g.R.Rows.seen c.args.names.now.rows) c.args.queue.now outs (g.R.Rows.seen c.args.names.now.rows) c.args.queue.now) (sym (ap texts_of c.new-outs.ensures.items))
      (none_so_far (admission c.args.config.now c.args.rule.now.patterns) (g.R.Rows.seen c.args.names.now.rows) c.args.queue.now);
  grows = omega arith;
}

pub loop-element-preserved : goal.loop-element-preserved
loop-element-preserved g c =
    let l = c.loop-element in
    let ds = more_map view c.args.elements.now l.element-index c.element-item.result c.loop-element-test.true c.element-item.is in
    let os : texts_of c.push.new.self.items ≡ texts_of l.outs.items ++ text_of c.in_ok-out.out ∷ [] = ap texts_of c.in_ok-push.ensures.items ∙ map_push text_of l.outs.items c.in_ok-out.out in
    record {
      so_far =
          subst (λ (x : List Data × List Outcome). SoFar (admission c.args.config.now c.args.rule.now.patterns) x.0 (g.R.Rows.seen c.args.names.now.rows) c.args.queue.now x.1 (g.R.Rows.seen c.put_element.new.names.rows) c.put_element.new.queue) (λ i. (sym ds i, sym os i))
          (one_more (admission c.args.config.now c.args.rule.now.patterns) (map view (take l.element-index c.args.elements.now)) (view c.element-item.result) (g.R.Rows.seen c.args.names.now.rows) (g.R.Rows.seen l.names.rows) (g.R.Rows.seen c.put_element.new.names.rows) c.args.queue.now l.queue
          c.put_element.new.queue (texts_of l.outs.items) (text_of c.in_ok-out.out) l.invariant.so_far c.in_ok-out.ensures.ok);
      grows = let a = l.invariant.grows in let b = c.in_ok-out.ensures.stops.grows in omega (arith, a, b);
    }

pub returns-in_err-out-clause-since : goal.returns-in_err-out-clause-since
returns-in_err-out-clause-since g c =
    let l = c.loop-element in
    since_start (admission c.args.config.now c.args.rule.now.patterns) (map view (take l.element-index c.args.elements.now)) (g.R.Rows.seen c.args.names.now.rows) (g.R.Rows.seen l.names.rows) (g.R.Rows.seen c.put_element.new.names.rows) c.args.queue.now l.queue (texts_of l.outs.items)
    c.in_err-out.ensures.err.own l.invariant.so_far c.in_err-out.ensures.err.made

pub returns-in_err-out-clause-err : goal.returns-in_err-out-clause-err
returns-in_err-out-clause-err g c =
    let l = c.loop-element in
    at_err c.from_residual.result
    (begun_more (admission c.args.config.now c.args.rule.now.patterns) (map view (take l.element-index c.args.elements.now)) (map view (drop (l.element-index + 1) c.args.elements.now)) (view c.element-item.result) (map view c.args.elements.now)
    (g.R.Rows.seen c.args.names.now.rows) (g.R.Rows.seen l.names.rows) (g.R.Rows.seen c.put_element.new.names.rows) c.args.queue.now l.queue c.put_element.new.queue (texts_of l.outs.items)
    (split_map view c.args.elements.now l.element-index c.element-item.result c.loop-element-test.true c.element-item.is) l.invariant.so_far c.in_err-out.ensures.err c.in_err-out.ensures.same)

pub returns-in_err-out-clause-queue : goal.returns-in_err-out-clause-queue
returns-in_err-out-clause-queue g c =
    let l = c.loop-element in
    at_err c.from_residual.result
    (may_have_put (admission c.args.config.now c.args.rule.now.patterns) (map view c.args.elements.now) (g.R.Rows.seen c.args.names.now.rows) (g.R.Rows.seen c.put_element.new.names.rows) c.args.queue.now c.put_element.new.queue
    (begun_more (admission c.args.config.now c.args.rule.now.patterns) (map view (take l.element-index c.args.elements.now)) (map view (drop (l.element-index + 1) c.args.elements.now)) (view c.element-item.result) (map view c.args.elements.now)
    (g.R.Rows.seen c.args.names.now.rows) (g.R.Rows.seen l.names.rows) (g.R.Rows.seen c.put_element.new.names.rows) c.args.queue.now l.queue c.put_element.new.queue (texts_of l.outs.items)
    (split_map view c.args.elements.now l.element-index c.element-item.result c.loop-element-test.true c.element-item.is) l.invariant.so_far c.in_err-out.ensures.err c.in_err-out.ensures.same))

pub returns-in_err-push-clause-since : goal.returns-in_err-push-clause-since
returns-in_err-push-clause-since g c =
    let l = c.loop-element in
    since_start (admission c.args.config.now c.args.rule.now.patterns) (map view (take l.element-index c.args.elements.now)) (g.R.Rows.seen c.args.names.now.rows) (g.R.Rows.seen l.names.rows) (g.R.Rows.seen c.put_element.new.names.rows) c.args.queue.now l.queue (texts_of l.outs.items)
    c.in_ok-out.ensures.ok.own l.invariant.so_far c.in_ok-out.ensures.ok.made

pub returns-in_err-push-clause-err : goal.returns-in_err-push-clause-err
returns-in_err-push-clause-err g c =
    let l = c.loop-element in
    at_err c.from_residual-in_err-push.result (ended_more (admission c.args.config.now c.args.rule.now.patterns) (map view (take l.element-index c.args.elements.now)) (map view (drop (l.element-index + 1) c.args.elements.now)) (view c.element-item.result) (map view c.args.elements.now)
    (g.R.Rows.seen c.args.names.now.rows) (g.R.Rows.seen l.names.rows) (g.R.Rows.seen c.put_element.new.names.rows) c.args.queue.now l.queue c.put_element.new.queue (texts_of l.outs.items) (text_of c.in_ok-out.out)
    (behind_map view c.args.elements.now l.element-index c.element-item.result c.loop-element-test.true c.element-item.is) l.invariant.so_far c.in_ok-out.ensures.ok)

pub returns-in_err-push-clause-queue : goal.returns-in_err-push-clause-queue
returns-in_err-push-clause-queue g c =
    let l = c.loop-element in
    at_err c.from_residual-in_err-push.result (may_have_put (admission c.args.config.now c.args.rule.now.patterns) (map view c.args.elements.now) (g.R.Rows.seen c.args.names.now.rows) (g.R.Rows.seen c.put_element.new.names.rows) c.args.queue.now c.put_element.new.queue
    (ended_more (admission c.args.config.now c.args.rule.now.patterns) (map view (take l.element-index c.args.elements.now)) (map view (drop (l.element-index + 1) c.args.elements.now)) (view c.element-item.result) (map view c.args.elements.now)
    (g.R.Rows.seen c.args.names.now.rows) (g.R.Rows.seen l.names.rows) (g.R.Rows.seen c.put_element.new.names.rows) c.args.queue.now l.queue c.put_element.new.queue (texts_of l.outs.items) (text_of c.in_ok-out.out)
    (behind_map view c.args.elements.now l.element-index c.element-item.result c.loop-element-test.true c.element-item.is) l.invariant.so_far c.in_ok-out.ensures.ok))
