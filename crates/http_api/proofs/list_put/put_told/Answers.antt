use Rattle.std.proofs.Common.{Option, Vec, ℕ, Global, subst}
use Rattle.std.specs.Prelude.{IfSome}
use Rattle.point_put.specs.Admissions.{admission}
use Rattle.http_put.specs.PutLines.{ListPut}
use Rattle.http_api.specs.CallWork.{PutFlags}
use Rattle.http_api.proofs.Answering.{in_error}
use Rattle.http_api.proofs.ListPuts.{list_broken, list_told, list_unsaid, memory_since, not_none}
use Rattle.http_api.proofs.list_put.put_told.Goals as goal

pub returns-in_err-found-clause-err : goal.returns-in_err-found-clause-err
returns-in_err-found-clause-err g c =
    let flags : PutFlags = record { details = c.args.details; summary = c.args.summary } in
    let a = admission c.args.config.now c.args.rule.now.patterns in
    in_error _ c.from_residual.result (list_broken a flags c.args.body.now (g.R.Rows.seen c.args.names.now.rows) (g.R.Rows.seen c.put_lines.new.names.rows) c.args.queue.now c.put_lines.new.queue c.in_err-found.ensures.since c.in_err-found.ensures.err c.in_err-found.ensures.queue)

pub returns-in-Some-clause-ok : goal.returns-in-Some-clause-ok
returns-in-Some-clause-ok g c =
    let flags : PutFlags = record { details = c.args.details; summary = c.args.summary } in
    let a = admission c.args.config.now c.args.rule.now.patterns in
    list_told a flags c.args.body.now c.args.closing (g.R.Rows.seen c.args.names.now.rows) (g.R.Rows.seen c.put_lines.new.names.rows) c.args.queue.now c.put_lines.new.queue c.in-Some.outcomes.items c.as_slice.result.now c.told_list.result c.as_slice.ensures.value c.in_ok-found.ensures.since
    (subst (λ (o : Option (Vec (Option (Vec ℕ Global)) Global)). IfSome o (λ outs. ListPut a c.args.body.now (g.R.Rows.seen c.args.names.now.rows) c.args.queue.now outs.items (g.R.Rows.seen c.put_lines.new.names.rows) c.put_lines.new.queue)) c.in-Some.is c.in_ok-found.ensures.ok) c.told_list.ensures.ok

pub returns-in-Some-clause-err : goal.returns-in-Some-clause-err
returns-in-Some-clause-err g c =
    let flags : PutFlags = record { details = c.args.details; summary = c.args.summary } in
    let a = admission c.args.config.now c.args.rule.now.patterns in
    in_error _ c.told_list.result (list_unsaid a flags c.args.body.now (g.R.Rows.seen c.args.names.now.rows) (g.R.Rows.seen c.put_lines.new.names.rows) c.args.queue.now c.put_lines.new.queue c.in-Some.outcomes.items c.in_ok-found.ensures.since
    (subst (λ (o : Option (Vec (Option (Vec ℕ Global)) Global)). IfSome o (λ outs. ListPut a c.args.body.now (g.R.Rows.seen c.args.names.now.rows) c.args.queue.now outs.items (g.R.Rows.seen c.put_lines.new.names.rows) c.put_lines.new.queue)) c.in-Some.is c.in_ok-found.ensures.ok))

pub returns-in-Some-clause-nothing : goal.returns-in-Some-clause-nothing
returns-in-Some-clause-nothing g c none = absurd (not_none _ c.told_list.result c.told_list.ensures.ok none)

pub returns-in-Some-clause-stops : goal.returns-in-Some-clause-stops
returns-in-Some-clause-stops g c = record { grows = c.in_ok-found.ensures.stops.grows; rose = memory_since (g.R.Rows.stops c.args.names.now.rows) (g.R.Rows.stops c.put_lines.new.names.rows) c.told_list.result c.told_list.ensures.err }
