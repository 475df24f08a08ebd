use Rattle.image_job.proofs.JobTold.{packs_sound}
use Rattle.image_job.proofs.pack_job.give_sound.Goals as goal

pub returns-clause-gives : goal.returns-clause-gives
returns-clause-gives g c =
    let k = g.K.Sink in
    packs_sound c.args.listed (k.held c.args.sink.now) (k.held c.pack.new.sink) c.pack.result c.sound_listing-listing.result c.requires.sound
    (λ i. record { widths = c.sound_listing-listing.ensures.widths i; lines = c.sound_listing-listing.ensures.cells i }) c.pack.ensures.gives
