use Rattle.std.proofs.Common.{List, ℕ, subst, sym, take, drop}
use Rattle.std.specs.Io.KnownBytes.{Appends}
use Rattle.std.proofs.lemmas.List.{take-append-drop}
use Rattle.command_words.specs.PlainAsked.{batch_of}
use Rattle.batch_run.specs.BatchRuns.{Works}
use Rattle.batch_run.proofs.RunLemmas.{IsPrinted, printed_status, runs_front, runs_printed}
use Rattle.batch_run.proofs.printing.print.Goals as goal

pub returns-in-Ok-give_all-clause-runs : goal.returns-in-Ok-give_all-clause-runs
returns-in-Ok-give_all-clause-runs g c =
    let s = g.S.Source in
    let k = g.K.Sink in
    let works = subst (λ r. Works (batch_of c.args.batch) (s.taken c.args.input.now) (s.taken c.decide-printed.new.input) (s.left c.args.input.now) (s.left c.decide-printed.new.input) r) c.in-Ok.is c.decide-printed.ensures.works in
    let gave = subst (λ (xs : List ℕ). Appends (k.held c.args.output.now) (k.held c.give_all.new.sink) xs) c.deref.ensures.value c.in-Ok-give_all.ensures.ok in
    runs_printed (batch_of c.args.batch) (s.taken c.args.input.now) (s.taken c.decide-printed.new.input) (s.left c.args.input.now) (s.left c.decide-printed.new.input) (k.held c.args.output.now) (k.held c.give_all.new.sink) c.in-Ok.printed works gave

pub returns-in-Ok-give_all-clause-read_fault : goal.returns-in-Ok-give_all-clause-read_fault
returns-in-Ok-give_all-clause-read_fault g c =
    let s = g.S.Source in
    let k = g.K.Sink in
    let works = subst (λ r. Works (batch_of c.args.batch) (s.taken c.args.input.now) (s.taken c.decide-printed.new.input) (s.left c.args.input.now) (s.left c.decide-printed.new.input) r) c.in-Ok.is c.decide-printed.ensures.works in
    λ is. absurd (subst IsPrinted is (printed_status (batch_of c.args.batch) (s.taken c.args.input.now) (s.taken c.decide-printed.new.input) (s.left c.args.input.now) (s.left c.decide-printed.new.input) (k.held c.args.output.now) (k.held c.args.output.now) c.in-Ok.printed works))

pub returns-in-Ok-give_all-clause-write_fault : goal.returns-in-Ok-give_all-clause-write_fault
returns-in-Ok-give_all-clause-write_fault g c =
    let s = g.S.Source in
    let k = g.K.Sink in
    let works = subst (λ r. Works (batch_of c.args.batch) (s.taken c.args.input.now) (s.taken c.decide-printed.new.input) (s.left c.args.input.now) (s.left c.decide-printed.new.input) r) c.in-Ok.is c.decide-printed.ensures.works in
    λ is. absurd (subst IsPrinted is (printed_status (batch_of c.args.batch) (s.taken c.args.input.now) (s.taken c.decide-printed.new.input) (s.left c.args.input.now) (s.left c.decide-printed.new.input) (k.held c.args.output.now) (k.held c.args.output.now) c.in-Ok.printed works))

pub returns-in-Ok-give_all-clause-stopped : goal.returns-in-Ok-give_all-clause-stopped
returns-in-Ok-give_all-clause-stopped g c =
    let s = g.S.Source in
    let k = g.K.Sink in
    let works = subst (λ r. Works (batch_of c.args.batch) (s.taken c.args.input.now) (s.taken c.decide-printed.new.input) (s.left c.args.input.now) (s.left c.decide-printed.new.input) r) c.in-Ok.is c.decide-printed.ensures.works in
    λ is. absurd (subst IsPrinted is (printed_status (batch_of c.args.batch) (s.taken c.args.input.now) (s.taken c.decide-printed.new.input) (s.left c.args.input.now) (s.left c.decide-printed.new.input) (k.held c.args.output.now) (k.held c.args.output.now) c.in-Ok.printed works))

pub returns-in-Ok-clause-runs : goal.returns-in-Ok-clause-runs
returns-in-Ok-clause-runs g c =
    let s = g.S.Source in
    let k = g.K.Sink in
    let works = subst (λ r. Works (batch_of c.args.batch) (s.taken c.args.input.now) (s.taken c.decide-printed.new.input) (s.left c.args.input.now) (s.left c.decide-printed.new.input) r) c.in-Ok.is c.decide-printed.ensures.works in
    let gave = subst (λ (xs : List ℕ). Appends (k.held c.args.output.now) (k.held c.give_all.new.sink) (take c.in-Err.ensures.err.0 xs)) c.deref.ensures.value c.in-Err.ensures.err.2 in
    runs_front (batch_of c.args.batch) (s.taken c.args.input.now) (s.taken c.decide-printed.new.input) (s.left c.args.input.now) (s.left c.decide-printed.new.input) (k.held c.args.output.now) (k.held c.give_all.new.sink) c.in-Ok.printed (take c.in-Err.ensures.err.0 c.in-Ok.printed.text.items) (drop c.in-Err.ensures.err.0 c.in-Ok.printed.text.items)
    works (sym (take-append-drop c.in-Err.ensures.err.0 c.in-Ok.printed.text.items)) gave
