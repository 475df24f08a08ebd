use Rattle.std.proofs.Common.{◌≡◌, ◌∙◌, sym}
use Rattle.point_put.specs.Admissions.{admission}
use Rattle.http_requests.specs.JsonBodies.{json_of}
use Rattle.http_api.specs.CallWork.{put_flags, puts_body, work_of}
use Rattle.http_api.proofs.ListPuts.{call_broken, call_replied, put_work}
use Rattle.http_api.proofs.list_put.answer_list.Goals as goal

pub returns-then-is_put-clause-ok : goal.returns-then-is_put-clause-ok
returns-then-is_put-clause-ok g c now =
    let put = c.is_put.ensures c.if-is_put.true in
    let is : work_of now c.args.call.now ≡ puts_body (put_flags c.list.result.now) (json_of c.list-then-is_put.result.now) =
    put_work now c.args.call.now (sym c.requires ∙ put.0) put.1 ∙ sym (λ i. puts_body (put_flags (c.list.ensures i)) (json_of (c.list-then-is_put.ensures i))) in
    call_replied (admission c.args.config.now c.args.rule.now.patterns) now c.args.call.now (puts_body (put_flags c.list.result.now) (json_of c.list-then-is_put.result.now)) (g.R.Rows.seen c.args.names.now.rows) (g.R.Rows.seen c.put_list.new.names.rows) c.args.queue.now c.put_list.new.queue c.put_list.result is c.put_list.ensures.ok

pub returns-then-is_put-clause-err : goal.returns-then-is_put-clause-err
returns-then-is_put-clause-err g c now =
    let put = c.is_put.ensures c.if-is_put.true in
    let is : work_of now c.args.call.now ≡ puts_body (put_flags c.list.result.now) (json_of c.list-then-is_put.result.now) =
    put_work now c.args.call.now (sym c.requires ∙ put.0) put.1 ∙ sym (λ i. puts_body (put_flags (c.list.ensures i)) (json_of (c.list-then-is_put.ensures i))) in
    call_broken (admission c.args.config.now c.args.rule.now.patterns) now c.args.call.now (puts_body (put_flags c.list.result.now) (json_of c.list-then-is_put.result.now)) (g.R.Rows.seen c.args.names.now.rows) (g.R.Rows.seen c.put_list.new.names.rows) c.args.queue.now c.put_list.new.queue c.put_list.result is c.put_list.ensures.err
