use Rattle.std.proofs.Common.{subst}
use Rattle.std.specs.Prelude.{Err}
use Rattle.cell_image.specs.ImageGifts.{GivesImage}
use Rattle.cell_image.specs.declared.image_giver.GiveImageFault.{GiveImageFault}
use Rattle.image_job.proofs.JobTold.{packs_large}
use Rattle.image_job.proofs.pack_job.pack.Goals as goal

pub returns-in-Err-TooLarge-clause-gives : goal.returns-in-Err-TooLarge-clause-gives
returns-in-Err-TooLarge-clause-gives g c =
    let k = g.K.Sink in
    let l = c.args.listing.now in
    let gives = subst (λ (f : GiveImageFault). GivesImage l (k.held c.args.sink.now) (k.held c.give_image.new.sink) (Err f)) c.in-Err-TooLarge.field-0-is c.in-Err-TooLarge.ensures.gives in
    packs_large l c.in-Err-TooLarge.cell (k.held c.args.sink.now) (k.held c.give_image.new.sink) (k.held c.give_large.new.sink) c.give_large.result gives.0 gives.1 c.give_large.ensures.gives
