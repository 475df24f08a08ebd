use Rattle.std.proofs.Common.{subst}
use Rattle.std.specs.Prelude.{Ok}
use Rattle.std.proofs.lemmas.Result.{err_from_is_err_and}
use Rattle.batch_job.specs.Pending.{so_far}
use Rattle.batch_run.specs.Inputs.{ReadsInputTo}
use Rattle.batch_run.proofs.RunLemmas.{answer_cause, line_refused, not_read, not_told, query_answered}
use Rattle.batch_run.proofs.printing.over_store.Goals as goal

pub read_points-requires : goal.read_points-requires
read_points-requires g c = record { allows = c.requires.allows; empty = c.make-gathered.ensures (g.R.Rows.seen c.args.store.now.rows) c.requires.naming }

pub answer-requires-clause-gathers : goal.answer-requires-clause-gathers
answer-requires-clause-gathers g c =
    let s = g.S.Source in
    let r = subst (λ bad. ReadsInputTo (s.taken c.args.input.now) (s.taken c.read_points.new.source) (s.left c.args.input.now) (s.left c.read_points.new.source) (so_far (g.R.Rows.seen c.read_points.new.store.rows) c.read_points.new.gathered) (Ok bad)) c.in-None.is c.in_ok-bad.ensures.reads in
    (r.reads.1.0, r.reads.1.2)

pub returns-in_ok-bad_line-in-Some-clause-works : goal.returns-in_ok-bad_line-in-Some-clause-works
returns-in_ok-bad_line-in-Some-clause-works g c = λ batch q.
    let s = g.S.Source in
    let reads = subst (λ bad. ReadsInputTo (s.taken c.args.input.now) (s.taken c.read_points.new.source) (s.left c.args.input.now) (s.left c.read_points.new.source) (so_far (g.R.Rows.seen c.read_points.new.store.rows) c.read_points.new.gathered) (Ok bad)) c.in-Some.is c.in_ok-bad.ensures.reads in
    line_refused c.args.query.now batch q (s.taken c.args.input.now) (s.taken c.read_points.new.source) (s.left c.args.input.now) (s.left c.read_points.new.source) (so_far (g.R.Rows.seen c.read_points.new.store.rows) c.read_points.new.gathered) c.in-Some.bad c.in_ok-bad_line-in-Some.field-0 reads c.in_ok-bad_line-in-Some.ensures

pub returns-in_err-bad-clause-works : goal.returns-in_err-bad-clause-works
returns-in_err-bad-clause-works g c = λ batch q.
    let s = g.S.Source in
    let p = err_from_is_err_and c.from_residual.result c.from_residual.ensures.1 in
    rw (p.1, p.2) (not_read c.args.query.now batch q (s.taken c.args.input.now) (s.taken c.read_points.new.source) (s.left c.args.input.now) (s.left c.read_points.new.source) (so_far (g.R.Rows.seen c.read_points.new.store.rows) c.read_points.new.gathered) c.in_err-bad.field-0.0 c.in_err-bad.ensures.reads)

pub returns-in_err-bad-clause-cause : goal.returns-in_err-bad-clause-cause
returns-in_err-bad-clause-cause g c =
    let p = err_from_is_err_and c.from_residual.result c.from_residual.ensures.1 in
    rw (p.1, p.2) c.in_err-bad.ensures.cause

pub returns-in_err-bad_line-in-Some-clause-works : goal.returns-in_err-bad_line-in-Some-clause-works
returns-in_err-bad_line-in-Some-clause-works g c = λ batch q.
    let s = g.S.Source in
    let p = err_from_is_err_and c.from_residual-in_err-bad_line-in-Some.result c.from_residual-in_err-bad_line-in-Some.ensures.1 in
    rw (p.1, p.2) (not_told c.args.query.now batch q (s.taken c.args.input.now) (s.taken c.read_points.new.source) (s.left c.args.input.now) (s.left c.read_points.new.source) (so_far (g.R.Rows.seen c.read_points.new.store.rows) c.read_points.new.gathered) _ c.in_ok-bad.ensures.reads)

pub returns-in-None-clause-works : goal.returns-in-None-clause-works
returns-in-None-clause-works g c = λ batch q.
    let s = g.S.Source in
    let reads = subst (λ bad. ReadsInputTo (s.taken c.args.input.now) (s.taken c.read_points.new.source) (s.left c.args.input.now) (s.left c.read_points.new.source) (so_far (g.R.Rows.seen c.read_points.new.store.rows) c.read_points.new.gathered) (Ok bad)) c.in-None.is c.in_ok-bad.ensures.reads in
    query_answered c.args.query.now batch q (s.taken c.args.input.now) (s.taken c.read_points.new.source) (s.left c.args.input.now) (s.left c.read_points.new.source) (so_far (g.R.Rows.seen c.read_points.new.store.rows) c.read_points.new.gathered) c.printed_answer.result c.answer.result reads c.answer.ensures.answers c.printed_answer.ensures.tells

pub returns-in-None-clause-cause : goal.returns-in-None-clause-cause
returns-in-None-clause-cause g c =
    let s = g.S.Source in
    answer_cause (s.faults c.args.input.now) (s.faults c.read_points.new.source) (g.R.Rows.stops c.args.store.now.rows) (g.R.Rows.stops c.read_points.new.store.rows) (g.R.Rows.stops c.answer.new.store.rows) c.printed_answer.result c.in_ok-bad.ensures.grows
    (c.printed_answer.ensures.cause (g.R.Rows.stops c.read_points.new.store.rows) (g.R.Rows.stops c.answer.new.store.rows) c.answer.ensures.stops.rose)
