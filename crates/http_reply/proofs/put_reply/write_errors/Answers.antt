use Rattle.std.proofs.Common.{◌∙◌, ◌++◌, ap, sym, map, List, ℕ, arith, length, Vec, Global}
use Rattle.json_reply.specs.Texts.{listed}
use Rattle.http_reply.specs.PutReplies.{error_object}
use Rattle.http_reply.proofs.Outcomes.{one_counted, refusal_written, stored_next}
use Rattle.http_reply.proofs.put_reply.write_errors.Goals as goal
use Rattle.http_reply.proofs.put_reply.write_errors.Goals.{in-Some+in_ok-write_comma-in-Some+in_ok-write_error-in-Some, in-None}

pub loop-index-preserved : goal.loop-index-preserved
loop-index-preserved c =
    let outs = c.args.outcomes.now in
    let i = c.loop-index.index in
    let outcome = c.index-outcomes-index.result in
    let old = c.args.body.now.items in
    let few = c.loop-index.invariant.few in
    elim c.match-outcome.branch [
      | in-Some+in_ok-write_comma-in-Some+in_ok-write_error-in-Some w ↦ record {
        written = w.written-is ∙ one_counted outs i c.loop-index.written outcome w.in-Some.text c.loop-index-test.true c.index-outcomes-index.is w.in-Some.is c.loop-index.invariant.written;
        few = (let is = w.written-is in omega (arith, few, is));
        text = refusal_written outs i c.loop-index.written outcome w.in-Some.text old c.loop-index.body.items w.write_comma.new.out.items c.match-outcome.body.items c.loop-index-test.true c.index-outcomes-index.is w.in-Some.is c.loop-index.invariant.written c.loop-index.invariant.text w.in_ok-write_comma-in-Some.ensures
            (ap (λ (v : Vec ℕ Global). v.items) w.body-is ∙ w.in_ok-write_error-in-Some.ensures ∙ ap (λ (text : List ℕ). w.write_comma.new.out.items ++ error_object (i, text)) w.as_slice.ensures.value);
      }
      | in-None w ↦
          let same = sym (stored_next outs i outcome c.loop-index-test.true c.index-outcomes-index.is w.in-None.is) in record {
            written = w.written-is ∙ c.loop-index.invariant.written ∙ ap (λ (xs : List (ℕ × List ℕ)). length xs) same;
            few = (let is = w.written-is in omega (arith, few, is));
            text = ap (λ (v : Vec ℕ Global). v.items) w.body-is ∙ c.loop-index.invariant.text ∙ ap (λ (xs : List (ℕ × List ℕ)). old ++ listed (map error_object xs)) same;
          }
    ]
