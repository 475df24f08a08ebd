use Rattle.std.proofs.Common.{sym, subst}
use Rattle.std.specs.Prelude.{Option}
use Rattle.command_words.specs.declared.asked.Batch.{Batch}
use Rattle.command_words.specs.PlainAsked.{batch_of}
use Rattle.batch_run.specs.BatchRuns.{Works}
use Rattle.batch_run.proofs.RunLemmas.{memory_cause, usage_shown}
use Rattle.batch_run.proofs.printing.decide.Goals as goal

pub returns-in-None-clause-works : goal.returns-in-None-clause-works
returns-in-None-clause-works g c =
    let s = g.S.Source in
    subst (λ (b : Option Batch). Works (batch_of b) (s.taken c.args.input.now) (s.taken c.args.input.now) (s.left c.args.input.now) (s.left c.args.input.now) c.usage.result) (sym c.in-None.is)
    (usage_shown (s.taken c.args.input.now) (s.left c.args.input.now) c.usage.result c.usage.ensures.shown c.usage.ensures.fails)

pub returns-in-None-clause-cause : goal.returns-in-None-clause-cause
returns-in-None-clause-cause g c = memory_cause _ _ _ _ c.usage.result c.usage.ensures.fails
