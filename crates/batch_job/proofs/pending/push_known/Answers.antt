use Rattle.std.proofs.Common.{sym}
use Rattle.batch_job.proofs.HeldSeries.{pushed_or, same_texts, unpushed_or}
use Rattle.batch_job.proofs.pending.push_known.Goals as goal

pub returns-in-Some-clause-known : goal.returns-in-Some-clause-known
returns-in-Some-clause-known c = λ keep.
    pushed_or c.args.series.now c.in-Some.ensures.unique c.args.at c.in-Some.pending.now c.push_of.new.self c.args.parts.now c.push_of.result (sym c.in-Some.ensures.value) c.push_of.ensures.known c.push_of.ensures.values keep

pub returns-in-Some-clause-kept : goal.returns-in-Some-clause-kept
returns-in-Some-clause-kept c = λ keep. same_texts c.args.series.now.entries c.args.at c.in-Some.pending.now c.push_of.new.self (sym c.in-Some.ensures.value) c.push_of.ensures.text keep

pub returns-in-Some-clause-err : goal.returns-in-Some-clause-err
returns-in-Some-clause-err c = unpushed_or c.args.series.now.entries c.args.at c.in-Some.pending.now c.push_of.new.self c.push_of.result (sym c.in-Some.ensures.value) c.push_of.ensures.err
