use Rattle.std.proofs.Common.{sym, subst}
use Rattle.cell_model.specs.Listed.{store_of}
use Rattle.cell_model.specs.Store.{Store}
use Rattle.listing_dump.specs.Dumps.{GivesDump, GivesFront}
use Rattle.listing_job.specs.ListingJobs.{Dumped, Gives}
use Rattle.listing_job.proofs.GivenTold.{dumps_all, dumps_front, gives_points}
use Rattle.listing_job.proofs.dump_job.give_points.Goals as goal

pub returns-in-Ok-clause-gives : goal.returns-in-Ok-clause-gives
returns-in-Ok-clause-gives g c =
    let k = g.K.Sink in
    dumps_all c.args.listed (k.held c.args.sink.now) (k.held c.dump.new.output) c.requires.sound
    (subst (λ (s : Store). GivesDump s (k.held c.args.sink.now) (k.held c.dump.new.output)) (λ i. store_of (record { widths = c.sound_listing-listing.ensures.widths i; lines = c.sound_listing-listing.ensures.cells i })) c.in-Ok.ensures.ok)

pub returns-clause-gives : goal.returns-clause-gives
returns-clause-gives g c =
    let k = g.K.Sink in
    let held = k.held c.args.sink.now in
    let held' = k.held c.dump.new.output in
    let front = subst (λ (s : Store). GivesFront s held held') (λ i. store_of (record { widths = c.sound_listing-listing.ensures.widths i; lines = c.sound_listing-listing.ensures.cells i })) c.in-Err.ensures.err in
    subst (Gives (Dumped c.args.listed) held held') (sym c.end_of_dump.ensures) (gives_points (Dumped c.args.listed) held held' c.in-Err.fault (dumps_front c.args.listed held held' c.requires.sound front))
