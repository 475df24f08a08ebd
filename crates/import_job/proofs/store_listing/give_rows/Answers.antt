use Rattle.std.proofs.Common.{◌≡◌, ap, sym, subst, arith}
use Rattle.tsd_io.specs.Causes.{Rose}
use Rattle.cell_model.specs.History.{len}
use Rattle.cell_model.specs.Seen.{Fits}
use Rattle.cell_solo.specs.Turns.{Play, history_of, sight}
use Rattle.import_job.proofs.GivenListings.{cells_listed, fault_listed, none_read, none_written, stop_rose}
use Rattle.import_job.proofs.store_listing.give_rows.Goals as goal

pub returns-in-Ok-clause-gives : goal.returns-in-Ok-clause-gives
returns-in-Ok-clause-gives g c =
    let k = g.K.Sink in
    let solo : c.part-solo.result.0 ≡ c.compact_if.new.rows.rows = ap (λ x. x.0) c.part-solo.ensures in
    cells_listed c.args.compact (sight c.args.rows.rows) (sight c.compact_if.new.rows.rows) (history_of c.part-solo.result.0) (k.held c.args.sink.now) (k.held c.give_solo-end.new.sink) c.give_solo-end.result
    c.give_solo-end.ensures.lawful
    (subst (λ (p : Play). Fits (sight p) (history_of c.part-solo.result.0)) solo c.give_solo-end.ensures.fits)
    (let same = ap (λ (p : Play). len (history_of p)) solo in omega (arith, same))
    c.in-Ok.ensures.makes c.give_solo-end.ensures.gives

pub returns-in-Ok-clause-stops_later : goal.returns-in-Ok-clause-stops_later
returns-in-Ok-clause-stops_later g c =
    let halt = ap (λ x. g.H.Halt.stops x.1) c.part-solo.ensures in
    let grows = c.in-Ok.ensures.stops.grows in
    omega (arith, halt, grows)

pub returns-in-Err-clause-gives : goal.returns-in-Err-clause-gives
returns-in-Err-clause-gives g c = fault_listed c.args.compact (sight c.args.rows.rows) (g.K.Sink.held c.args.sink.now) c.in-Err.fault c.end_of_rows-end.result c.end_of_rows-end.ensures

pub returns-in-Err-clause-stops_later : goal.returns-in-Err-clause-stops_later
returns-in-Err-clause-stops_later g c =
    let halt = ap (λ x. g.H.Halt.stops x.1) c.part-solo-in-Err.ensures in
    let grows = c.in-Err.ensures.stops.grows in
    omega (arith, halt, grows)

pub returns-in-Err-clause-no_read : goal.returns-in-Err-clause-no_read
returns-in-Err-clause-no_read g c = none_read c.in-Err.fault c.end_of_rows-end.result c.end_of_rows-end.ensures

pub returns-in-Err-clause-write_fault : goal.returns-in-Err-clause-write_fault
returns-in-Err-clause-write_fault g c = λ e. absurd (none_written c.in-Err.fault c.end_of_rows-end.result c.end_of_rows-end.ensures e)

pub returns-in-Err-clause-stopped : goal.returns-in-Err-clause-stopped
returns-in-Err-clause-stopped g c = λ e.
    let halt = ap (λ x. x.1) c.part-solo-in-Err.ensures in
    subst (λ x. Rose (g.H.Halt.stops c.args.rows.halt) (g.H.Halt.stops x)) (sym halt)
    (stop_rose c.in-Err.fault c.end_of_rows-end.result (g.H.Halt.stops c.args.rows.halt) (g.H.Halt.stops c.compact_if.new.rows.halt) c.end_of_rows-end.ensures c.in-Err.ensures.stops.rose e)
