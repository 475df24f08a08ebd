use Rattle.std.proofs.Common.{List, subst, sym}
use Rattle.std.specs.Io.KnownBytes.{Appends}
use Rattle.cell_model.specs.declared.row.ListLine.{ListLine}
use Rattle.cell_listing.specs.Grammar.{cells_text}
use Rattle.listing_print.specs.GivenTexts.{GaveFront}
use Rattle.listing_job.specs.ListingJobs.{Gives}
use Rattle.image_job.specs.ImageJobs.{Unpacked}
use Rattle.image_job.proofs.JobTold.{unpacks_all, unpacks_front}
use Rattle.image_job.proofs.unpack_job.unpack.Goals as goal

pub returns-in-Ok-clause-gives : goal.returns-in-Ok-clause-gives
returns-in-Ok-clause-gives g c =
    let k = g.K.Sink in
    let gave = subst (λ (cells : List ListLine). Appends (k.held c.args.sink.now) (k.held c.give_cells.new.sink) (cells_text cells)) c.lines.ensures.lines c.in-Ok.ensures.ok in
    unpacks_all c.args.listing.now (k.held c.args.sink.now) (k.held c.give_cells.new.sink) c.requires.faultless gave

pub returns-in-Err-clause-gives : goal.returns-in-Err-clause-gives
returns-in-Err-clause-gives g c =
    let k = g.K.Sink in
    let l = c.args.listing.now in
    let held = k.held c.args.sink.now in
    let held' = k.held c.give_cells.new.sink in
    let front = subst (λ (cells : List ListLine). GaveFront held held' (cells_text cells)) c.lines.ensures.lines c.in-Err.ensures.err in
    subst (Gives (Unpacked l) held held') (sym c.end_of_give.ensures) (unpacks_front l held held' c.in-Err.fault c.requires.faultless front)
