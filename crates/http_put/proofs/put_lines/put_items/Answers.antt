use Rattle.std.proofs.Common.{rules, ◌≡◌, ◌+◌, ◌<◌, ◌++◌, drop, length, subst, length-append, vec_len, arith}
use Rattle.std.proofs.lemmas.Result.{IfOk-weaker}
use Rattle.point_put.specs.Admissions.{admission}
use Rattle.http_put.specs.PutElements.{texts_of}
use Rattle.http_put.specs.PutLines.{IsTold}
use Rattle.http_put.specs.declared.put_lines.Turn.{Turn}
use Rattle.http_put.proofs.ElementRuns.{since_start}
use Rattle.http_put.proofs.ItemTurns.{ItemsSoFar, asked, items_broken, items_end, items_stand, items_start, items_told, items_untold, rest_broken, rest_since, rest_stored, turn_since}
use Rattle.http_put.proofs.LineTurns.{later_rose}
use Rattle.http_put.proofs.OneElement.{at_err, err_as}
use Rattle.http_put.proofs.put_lines.put_items.Goals as goal

pub turns-init : goal.turns-init
turns-init g c = record {
  so_far = items_start (admission c.args.config.now c.args.rule.now.patterns) c.args.body.now (drop (vec_len c.new-outs.result) c.args.lines.now) (g.R.Rows.seen c.args.names.now.rows) c.args.queue.now c.new-outs.result.items c.new-outs.ensures.items
      (c.requires.0, c.requires.1, asked c.args.lines.now c.requires.0 0 (vec_len c.new-outs.result) (search rules) c.requires.2);
  grows = omega arith;
}

pub turns-smaller : goal.turns-smaller
turns-smaller g c =
    let within : c.len.result < length c.args.lines.now = subst (λ (t : Turn). IsTold t → c.len.result < length c.args.lines.now) c.in-Told.is c.in_ok-turn.ensures.within tt in
    let same : c.len.result ≡ vec_len c.turns.outs = search rules in
    let more : vec_len c.push.new.self ≡ vec_len c.turns.outs + 1 = search rules in
    omega (arith, within, same, more)

pub turns-preserved : goal.turns-preserved
turns-preserved g c =
    let l = c.turns in
    let x = l.invariant.so_far in
    let more : c.len.result + 1 ≡ vec_len c.push.new.self = search rules in
    record {
      so_far = subst (λ n. ItemsSoFar (admission c.args.config.now c.args.rule.now.patterns) c.args.body.now (drop n c.args.lines.now) (g.R.Rows.seen c.args.names.now.rows) c.args.queue.now c.push.new.self.items (g.R.Rows.seen c.put_next.new.names.rows) c.put_next.new.queue) more
          (items_told (admission c.args.config.now c.args.rule.now.patterns) c.args.body.now (drop (vec_len l.outs) c.args.lines.now) (drop (c.len.result + 1) c.args.lines.now) (g.R.Rows.seen c.args.names.now.rows) (g.R.Rows.seen l.names.rows) (g.R.Rows.seen c.put_next.new.names.rows) c.args.queue.now l.queue c.put_next.new.queue
          l.outs.items c.push.new.self.items c.in-Told.out c.in_ok-turn.turn x c.in-Told.is c.in_ok-push-in-Told.ensures.items (c.in_ok-turn.ensures.ok x.rest (asked c.args.lines.now x.rest (vec_len l.outs) c.len.result (search rules) x.goes)));
      grows = let a = l.invariant.grows in let b = c.in_ok-turn.ensures.stops.grows in omega (arith, a, b);
    }

pub returns-in-End-clause-ok : goal.returns-in-End-clause-ok
returns-in-End-clause-ok g c =
    let l = c.turns in
    let x = l.invariant.so_far in
    items_end (admission c.args.config.now c.args.rule.now.patterns) c.args.body.now (drop (vec_len l.outs) c.args.lines.now) (drop (c.len.result + 1) c.args.lines.now) (g.R.Rows.seen c.args.names.now.rows) (g.R.Rows.seen l.names.rows) (g.R.Rows.seen c.put_next.new.names.rows) c.args.queue.now l.queue c.put_next.new.queue
    l.outs.items c.in_ok-turn.turn x c.in-End.is (c.in_ok-turn.ensures.ok x.rest (asked c.args.lines.now x.rest (vec_len l.outs) c.len.result (search rules) x.goes))

pub returns-in-End-clause-since : goal.returns-in-End-clause-since
returns-in-End-clause-since g c =
    let l = c.turns in
    let x = l.invariant.so_far in
    turn_since (admission c.args.config.now c.args.rule.now.patterns) c.args.body.now (drop (vec_len l.outs) c.args.lines.now) (drop (c.len.result + 1) c.args.lines.now) (g.R.Rows.seen c.args.names.now.rows) (g.R.Rows.seen l.names.rows) (g.R.Rows.seen c.put_next.new.names.rows) c.args.queue.now l.queue c.put_next.new.queue
    l.outs.items c.in_ok-turn.turn x (c.in_ok-turn.ensures.ok x.rest (asked c.args.lines.now x.rest (vec_len l.outs) c.len.result (search rules) x.goes))

pub returns-in_err-turn-clause-err : goal.returns-in_err-turn-clause-err
returns-in_err-turn-clause-err g c =
    let l = c.turns in
    let x = l.invariant.so_far in
    at_err c.from_residual.result
    (items_broken (admission c.args.config.now c.args.rule.now.patterns) c.args.body.now (drop (vec_len l.outs) c.args.lines.now) (g.R.Rows.seen c.args.names.now.rows) (g.R.Rows.seen l.names.rows) (g.R.Rows.seen c.put_next.new.names.rows) c.args.queue.now l.queue c.put_next.new.queue
    l.outs.items x (c.in_err-turn.ensures.err x.rest (asked c.args.lines.now x.rest (vec_len l.outs) c.len.result (search rules) x.goes)) c.in_err-turn.ensures.same)

pub returns-in_err-turn-clause-since : goal.returns-in_err-turn-clause-since
returns-in_err-turn-clause-since g c =
    let l = c.turns in
    let x = l.invariant.so_far in
    let begun = c.in_err-turn.ensures.err x.rest (asked c.args.lines.now x.rest (vec_len l.outs) c.len.result (search rules) x.goes) in
    since_start (admission c.args.config.now c.args.rule.now.patterns) x.done (g.R.Rows.seen c.args.names.now.rows) (g.R.Rows.seen l.names.rows) (g.R.Rows.seen c.put_next.new.names.rows) c.args.queue.now l.queue (texts_of l.outs.items) begun.3.own x.so_far begun.3.made

pub returns-in_err-push-in-Told-clause-err : goal.returns-in_err-push-in-Told-clause-err
returns-in_err-push-in-Told-clause-err g c =
    let l = c.turns in
    let x = l.invariant.so_far in
    at_err c.from_residual-in_err-push-in-Told.result
    (items_untold (admission c.args.config.now c.args.rule.now.patterns) c.args.body.now (drop (vec_len l.outs) c.args.lines.now) (drop (c.len.result + 1) c.args.lines.now) (g.R.Rows.seen c.args.names.now.rows) (g.R.Rows.seen l.names.rows) (g.R.Rows.seen c.put_next.new.names.rows) c.args.queue.now l.queue c.put_next.new.queue
    l.outs.items c.in-Told.out c.in_ok-turn.turn x c.in-Told.is (c.in_ok-turn.ensures.ok x.rest (asked c.args.lines.now x.rest (vec_len l.outs) c.len.result (search rules) x.goes)))

pub returns-in_err-push-in-Told-clause-since : goal.returns-in_err-push-in-Told-clause-since
returns-in_err-push-in-Told-clause-since g c =
    let l = c.turns in
    let x = l.invariant.so_far in
    turn_since (admission c.args.config.now c.args.rule.now.patterns) c.args.body.now (drop (vec_len l.outs) c.args.lines.now) (drop (c.len.result + 1) c.args.lines.now) (g.R.Rows.seen c.args.names.now.rows) (g.R.Rows.seen l.names.rows) (g.R.Rows.seen c.put_next.new.names.rows) c.args.queue.now l.queue c.put_next.new.queue
    l.outs.items c.in_ok-turn.turn x (c.in_ok-turn.ensures.ok x.rest (asked c.args.lines.now x.rest (vec_len l.outs) c.len.result (search rules) x.goes))

pub returns-in-Other-clause-ok : goal.returns-in-Other-clause-ok
returns-in-Other-clause-ok g c =
    let l = c.turns in
    let x = l.invariant.so_far in
    let stood = items_stand (admission c.args.config.now c.args.rule.now.patterns) c.args.body.now (drop (vec_len l.outs) c.args.lines.now) (drop (c.len.result + 1) c.args.lines.now) (g.R.Rows.seen c.args.names.now.rows) (g.R.Rows.seen l.names.rows) (g.R.Rows.seen c.put_next.new.names.rows) c.args.queue.now l.queue c.put_next.new.queue
    l.outs.items c.in_ok-turn.turn x c.in-Other.is (c.in_ok-turn.ensures.ok x.rest (asked c.args.lines.now x.rest (vec_len l.outs) c.len.result (search rules) x.goes)) in
    IfOk-weaker c.put_rest.result _ _ (λ all put. rest_stored (admission c.args.config.now c.args.rule.now.patterns) c.args.body.now x.done x.rest (g.R.Rows.seen c.args.names.now.rows) (g.R.Rows.seen c.put_next.new.names.rows) (g.R.Rows.seen c.put_rest.new.names.rows) c.args.queue.now c.put_next.new.queue c.put_rest.new.queue
    l.outs.items all.items x.list stood c.put_rest.ensures.since put) (c.put_rest.ensures.ok x.done x.rest x.list x.counted)

pub returns-in-Other-clause-err : goal.returns-in-Other-clause-err
returns-in-Other-clause-err g c =
    let l = c.turns in
    let x = l.invariant.so_far in
    let stood = items_stand (admission c.args.config.now c.args.rule.now.patterns) c.args.body.now (drop (vec_len l.outs) c.args.lines.now) (drop (c.len.result + 1) c.args.lines.now) (g.R.Rows.seen c.args.names.now.rows) (g.R.Rows.seen l.names.rows) (g.R.Rows.seen c.put_next.new.names.rows) c.args.queue.now l.queue c.put_next.new.queue
    l.outs.items c.in_ok-turn.turn x c.in-Other.is (c.in_ok-turn.ensures.ok x.rest (asked c.args.lines.now x.rest (vec_len l.outs) c.len.result (search rules) x.goes)) in
    err_as c.put_rest.result (rest_broken (admission c.args.config.now c.args.rule.now.patterns) c.args.body.now x.done x.rest (g.R.Rows.seen c.args.names.now.rows) (g.R.Rows.seen c.put_next.new.names.rows) (g.R.Rows.seen c.put_rest.new.names.rows) c.args.queue.now c.put_next.new.queue c.put_rest.new.queue
    l.outs.items x.list stood c.put_rest.ensures.since) (c.put_rest.ensures.err x.done x.rest x.list x.counted)

pub returns-in-Other-clause-since : goal.returns-in-Other-clause-since
returns-in-Other-clause-since g c =
    let l = c.turns in
    let x = l.invariant.so_far in
    let stood = items_stand (admission c.args.config.now c.args.rule.now.patterns) c.args.body.now (drop (vec_len l.outs) c.args.lines.now) (drop (c.len.result + 1) c.args.lines.now) (g.R.Rows.seen c.args.names.now.rows) (g.R.Rows.seen l.names.rows) (g.R.Rows.seen c.put_next.new.names.rows) c.args.queue.now l.queue c.put_next.new.queue
    l.outs.items c.in_ok-turn.turn x c.in-Other.is (c.in_ok-turn.ensures.ok x.rest (asked c.args.lines.now x.rest (vec_len l.outs) c.len.result (search rules) x.goes)) in
    rest_since (admission c.args.config.now c.args.rule.now.patterns) x.done x.rest (g.R.Rows.seen c.args.names.now.rows) (g.R.Rows.seen c.put_next.new.names.rows) (g.R.Rows.seen c.put_rest.new.names.rows) c.args.queue.now c.put_next.new.queue l.outs.items stood c.put_rest.ensures.since

pub returns-in-Other-clause-stops : goal.returns-in-Other-clause-stops
returns-in-Other-clause-stops g c =
    let a = c.turns.invariant.grows in
    let b = c.in_ok-turn.ensures.stops.grows in
    let d = c.put_rest.ensures.stops.grows in
    record {
      grows = omega (arith, a, b, d);
      rose = later_rose (g.R.Rows.stops c.args.names.now.rows) (g.R.Rows.stops c.put_next.new.names.rows) (g.R.Rows.stops c.put_rest.new.names.rows) c.put_rest.result (omega (arith, a, b)) c.put_rest.ensures.stops.rose;
    }

pub put_rest-requires : goal.put_rest-requires
put_rest-requires g c =
    let x = c.turns.invariant.so_far in
    (x.done ++ x.rest, x.list, (let n = length-append x.done x.rest in let k = x.counted in omega (arith, n, k)))
