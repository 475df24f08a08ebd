use Rattle.std.proofs.Common.{List, ℕ, sym, subst}
use Rattle.cell_model.specs.declared.answers.Stored.{Stored}
use Rattle.cell_model.specs.IdRows.{NameOf}
use Rattle.cell_model.specs.Seen.{InEach}
use Rattle.point_put.specs.declared.config.Config.{Config}
use Rattle.point_put.specs.Admissions.{admission}
use Rattle.http_assign.specs.AssignLists.{AssignBegun, AssignRan, IdTold, outcomes_in}
use Rattle.http_reply.specs.AssignReplies.{assign_body, assign_status}
use Rattle.http_reply.specs.ReplyBytes.{reply_bytes}
use Rattle.name_requests.specs.AssignRequests.{assign_lists}
use Rattle.http_api.specs.CallWork.Work.{Assigns}
use Rattle.http_api.specs.HttpAnswers.{WorkBroken, WorkReplied, named_in}
use Rattle.http_api.proofs.Answering.{as_named, in_error, names_broken, names_replied, names_untold, with_bytes}
use Rattle.http_api.proofs.http_answer.assign.Goals as goal

pub returns-in_err-ids-clause-err : goal.returns-in_err-ids-clause-err
returns-in_err-ids-clause-err g c = in_error ((config : Config) (queue : List Stored) → WorkBroken (admission config c.args.rule.now.patterns) (Assigns (assign_lists c.args.request.now)) (g.R.Rows.seen c.args.names.now.rows) queue (g.R.Rows.seen c.assign_lists.new.names.rows) queue) c.from_residual.result
    (λ config queue. names_broken (admission config c.args.rule.now.patterns) (assign_lists c.args.request.now) (g.R.Rows.seen c.args.names.now.rows) (g.R.Rows.seen c.assign_lists.new.names.rows) queue c.in_err-ids.ensures.since
    (as_named (λ (names : List NameOf). InEach (g.R.Rows.seen c.assign_lists.new.names.rows) (λ h. AssignBegun c.args.rule.now.patterns h (g.R.Rows.seen c.args.names.now.rows).caller (g.R.Rows.seen c.args.names.now.rows).length names (g.R.Rows.seen c.assign_lists.new.names.rows).length)) c.args.request.now c.in_err-ids.ensures.err))

pub returns-in-Ok-clause-ok : goal.returns-in-Ok-clause-ok
returns-in-Ok-clause-ok g c =
    let bytes = reply_bytes (assign_status c.in-Ok.answers) c.args.closing (assign_body c.widths.result c.in-Ok.answers) in
    let old = g.R.Rows.seen c.args.names.now.rows in
    let new = g.R.Rows.seen c.assign_lists.new.names.rows in
    with_bytes (λ (b : List ℕ). (config : Config) (queue : List Stored) → WorkReplied (admission config c.args.rule.now.patterns) (Assigns (assign_lists c.args.request.now)) c.args.closing (g.R.Rows.seen c.args.names.now.rows) queue b (g.R.Rows.seen c.assign_lists.new.names.rows) queue)
    bytes c.told.result (c.told.ensures.ok bytes c.assign_reply.ensures)
    (λ config queue. names_replied (admission config c.args.rule.now.patterns) (assign_lists c.args.request.now) c.args.closing old new queue c.in-Ok.answers c.widths.result c.widths.ensures c.in_ok-ids.ensures.since c.in-Ok.ensures.texts
    (subst (λ (outs : List IdTold). InEach new (λ h. AssignRan c.args.rule.now.patterns h old.caller old.length (named_in (assign_lists c.args.request.now)) outs new.length)) (sym c.in-Ok.ensures.answers)
    (as_named (λ (names : List NameOf). InEach new (λ h. AssignRan c.args.rule.now.patterns h old.caller old.length names (outcomes_in c.in_ok-ids.ids) new.length)) c.args.request.now c.in_ok-ids.ensures.ok)))

pub returns-in-Ok-clause-err : goal.returns-in-Ok-clause-err
returns-in-Ok-clause-err g c = in_error ((config : Config) (queue : List Stored) → WorkBroken (admission config c.args.rule.now.patterns) (Assigns (assign_lists c.args.request.now)) (g.R.Rows.seen c.args.names.now.rows) queue (g.R.Rows.seen c.assign_lists.new.names.rows) queue) c.told.result
    (λ config queue. names_untold (admission config c.args.rule.now.patterns) (assign_lists c.args.request.now) (g.R.Rows.seen c.args.names.now.rows) (g.R.Rows.seen c.assign_lists.new.names.rows) queue (outcomes_in c.in_ok-ids.ids) c.in_ok-ids.ensures.since
    (as_named (λ (names : List NameOf). InEach (g.R.Rows.seen c.assign_lists.new.names.rows) (λ h. AssignRan c.args.rule.now.patterns h (g.R.Rows.seen c.args.names.now.rows).caller (g.R.Rows.seen c.args.names.now.rows).length names (outcomes_in c.in_ok-ids.ids) (g.R.Rows.seen c.assign_lists.new.names.rows).length)) c.args.request.now c.in_ok-ids.ensures.ok))

pub returns-in-Err-clause-err : goal.returns-in-Err-clause-err
returns-in-Err-clause-err g c config queue = names_untold (admission config c.args.rule.now.patterns) (assign_lists c.args.request.now) (g.R.Rows.seen c.args.names.now.rows) (g.R.Rows.seen c.assign_lists.new.names.rows) queue (outcomes_in c.in_ok-ids.ids) c.in_ok-ids.ensures.since
    (as_named (λ (names : List NameOf). InEach (g.R.Rows.seen c.assign_lists.new.names.rows) (λ h. AssignRan c.args.rule.now.patterns h (g.R.Rows.seen c.args.names.now.rows).caller (g.R.Rows.seen c.args.names.now.rows).length names (outcomes_in c.in_ok-ids.ids) (g.R.Rows.seen c.assign_lists.new.names.rows).length)) c.args.request.now c.in_ok-ids.ensures.ok)
