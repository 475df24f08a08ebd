use Rattle.std.proofs.Common.{◌≡◌, ◌≤◌, sym, subst}
use Rattle.std.specs.Prelude.{true}
use Rattle.tsd_io.specs.Causes.{Rose}
use Rattle.cell_model.specs.Seen.{IsPossible}
use Rattle.cell_solo.specs.Turns.{sight}
use Rattle.import_job.specs.declared.import_end.ImportEnd.TheVariants.{Stopped}
use Rattle.import_job.specs.Listings.{GivesListing}
use Rattle.import_job.proofs.store_listing.give_store.Goals as goal

pub give_rows-requires-clause-alone : goal.give_rows-requires-clause-alone
give_rows-requires-clause-alone g c = subst (λ x. (sight x.rows).alone ≡ true) (sym c.part-rows.ensures) c.requires.alone

pub give_rows-requires-clause-possible : goal.give_rows-requires-clause-possible
give_rows-requires-clause-possible g c = subst (λ x. IsPossible (sight x.rows)) (sym c.part-rows.ensures) c.requires.possible

pub returns-clause-gives : goal.returns-clause-gives
returns-clause-gives g c = subst (λ x. GivesListing c.args.compact (sight x.rows) (g.K.Sink.held c.args.sink.now) (g.K.Sink.held c.give_rows.new.sink) c.give_rows.result.end) c.part-rows.ensures c.give_rows.ensures.gives

pub returns-clause-stops_later : goal.returns-clause-stops_later
returns-clause-stops_later g c = subst (λ x. g.H.Halt.stops x.halt ≤ g.H.Halt.stops c.give_rows.result.halt) c.part-rows.ensures c.give_rows.ensures.stops_later

pub returns-clause-stopped : goal.returns-clause-stopped
returns-clause-stopped g c = subst (λ x. c.give_rows.result.end ≡ Stopped → Rose (g.H.Halt.stops x.halt) (g.H.Halt.stops c.give_rows.result.halt)) c.part-rows.ensures c.give_rows.ensures.stopped
