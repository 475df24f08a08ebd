use Rattle.std.proofs.Common.{◌+◌, ◌∙◌, ap, sym, subst, arith}
use Rattle.std.specs.Prelude.{IfErr}
use Rattle.tsd_io.specs.Causes.{Rose}
use Rattle.cell_model.specs.Seen.{Seen}
use Rattle.cell_solo.specs.Turns.{sight}
use Rattle.point_import.specs.ImportFaults.{ImportCause}
use Rattle.point_import.specs.ImportedLines.{Imports}
use Rattle.point_import.specs.PutPoints.{no_patterns}
use Rattle.import_job.proofs.EndCauses.{read_cause, rose_later, stop_cause}
use Rattle.import_job.proofs.Passes.{faulted, listed}
use Rattle.import_job.proofs.import_job.import_into.Goals as goal

pub give_store-requires-clause-alone : goal.give_store-requires-clause-alone
give_store-requires-clause-alone g c = c.import.ensures.imports.since.alone ∙ ap (λ (s : Seen). s.alone) c.requires.fresh.seen

pub give_store-requires-clause-possible : goal.give_store-requires-clause-possible
give_store-requires-clause-possible g c = c.import.ensures.imports.since.lives c.requires.fresh.possible

pub returns-in-Ok-clause-imports : goal.returns-in-Ok-clause-imports
returns-in-Ok-clause-imports g c =
    let s = g.S.Source in
    let k = g.K.Sink in
    let i = subst (λ r. Imports no_patterns (s.taken c.args.source.now) (s.taken c.import.new.source) (s.left c.args.source.now) (s.left c.import.new.source) (sight c.args.store.rows.rows) r (sight c.import.new.names.rows.rows)) c.in-Ok.is c.import.ensures.imports in
    listed c.args.widths c.args.compact (s.taken c.args.source.now) (s.taken c.import.new.source) (s.left c.args.source.now) (s.left c.import.new.source) (k.held c.args.sink.now) (k.held c.give_store.new.sink) (sight c.args.store.rows.rows) (sight c.import.new.names.rows.rows) c.requires.fresh c.in-Ok.field-0 i
    c.give_store.result.end c.give_store.ensures.gives

pub returns-in-Ok-clause-stops_later : goal.returns-in-Ok-clause-stops_later
returns-in-Ok-clause-stops_later g c = let a = c.import.ensures.grows in let b = c.give_store.ensures.stops_later in omega (arith, a, b)

pub returns-in-Ok-clause-stopped : goal.returns-in-Ok-clause-stopped
returns-in-Ok-clause-stopped g c = λ is.
    let a = c.import.ensures.grows in
    rose_later (g.H.Halt.stops c.args.store.rows.halt) (g.H.Halt.stops c.import.new.names.rows.halt) (g.H.Halt.stops c.give_store.result.halt) (omega (arith, a)) (c.give_store.ensures.stopped is)

pub returns-in-Err-clause-imports : goal.returns-in-Err-clause-imports
returns-in-Err-clause-imports g c =
    let s = g.S.Source in
    let k = g.K.Sink in
    let i = subst (λ r. Imports no_patterns (s.taken c.args.source.now) (s.taken c.import.new.source) (s.left c.args.source.now) (s.left c.import.new.source) (sight c.args.store.rows.rows) r (sight c.import.new.names.rows.rows)) c.in-Err.is c.import.ensures.imports in
    faulted c.args.widths c.args.compact (s.taken c.args.source.now) (s.taken c.import.new.source) (s.left c.args.source.now) (s.left c.import.new.source) (k.held c.args.sink.now) (k.held c.give_fault-end.new.sink) (sight c.args.store.rows.rows) (sight c.import.new.names.rows.rows) c.requires.fresh c.in-Err.fault i
    c.give_fault-end.result c.give_fault-end.ensures.gives

pub returns-in-Err-clause-stops_later : goal.returns-in-Err-clause-stops_later
returns-in-Err-clause-stops_later g c = let a = c.import.ensures.grows in let left = ap g.H.Halt.stops c.halt_of-halt.ensures in omega (arith, a, left)

pub returns-in-Err-clause-read_fault : goal.returns-in-Err-clause-read_fault
returns-in-Err-clause-read_fault g c = λ is.
    let s = g.S.Source in
    let cause = subst (λ r. IfErr r (ImportCause (s.faults c.args.source.now) (s.faults c.import.new.source) (g.H.Halt.stops c.args.store.rows.halt + 0) (g.H.Halt.stops c.import.new.names.rows.halt + 0))) c.in-Err.is c.import.ensures.cause in
    read_cause (g.K.Sink.held c.args.sink.now) (g.K.Sink.held c.give_fault-end.new.sink) (s.faults c.args.source.now) (s.faults c.import.new.source) (g.H.Halt.stops c.args.store.rows.halt) (g.H.Halt.stops c.import.new.names.rows.halt) c.in-Err.fault c.give_fault-end.result c.give_fault-end.ensures.gives cause is

pub returns-in-Err-clause-stopped : goal.returns-in-Err-clause-stopped
returns-in-Err-clause-stopped g c = λ is.
    let s = g.S.Source in
    let cause = subst (λ r. IfErr r (ImportCause (s.faults c.args.source.now) (s.faults c.import.new.source) (g.H.Halt.stops c.args.store.rows.halt + 0) (g.H.Halt.stops c.import.new.names.rows.halt + 0))) c.in-Err.is c.import.ensures.cause in
    subst (λ x. Rose (g.H.Halt.stops c.args.store.rows.halt) (g.H.Halt.stops x)) (sym c.halt_of-halt.ensures)
    (stop_cause (g.K.Sink.held c.args.sink.now) (g.K.Sink.held c.give_fault-end.new.sink) (s.faults c.args.source.now) (s.faults c.import.new.source) (g.H.Halt.stops c.args.store.rows.halt) (g.H.Halt.stops c.import.new.names.rows.halt) c.in-Err.fault c.give_fault-end.result c.give_fault-end.ensures.gives cause is)
