use Rattle.std.proofs.Common.{◌∙◌, ap, sym}
use Rattle.listing_job.specs.ListingJobs.{Told}
use Rattle.listing_job.specs.Shows.{told_of}
use Rattle.image_job.specs.ImageTexts.{image_fault_text, refused_by}
use Rattle.image_job.proofs.JobTold.{never_done, refuses_so, shows_so}
use Rattle.image_job.proofs.load_job.refuse.Goals as goal

pub returns-in-Ok-clause-gives : goal.returns-in-Ok-clause-gives
returns-in-Ok-clause-gives g c =
    let k = g.K.Sink in
    refuses_so c.args.fault (k.held c.args.sink.now) (k.held c.give_shown.new.sink) c.give_shown.result (sym c.is_want.ensures ∙ c.if-is_want.false)
    (shows_so (told_of c.in-Ok.shown) (refused_by (image_fault_text c.args.fault)) (k.held c.args.sink.now) (k.held c.give_shown.new.sink) c.give_shown.result c.in-Ok.ensures c.give_shown.ensures.gives)

pub returns-in-Ok-clause-not_done : goal.returns-in-Ok-clause-not_done
returns-in-Ok-clause-not_done g c =
    let k = g.K.Sink in
    never_done (told_of c.in-Ok.shown) (k.held c.args.sink.now) (k.held c.give_shown.new.sink) c.give_shown.result (ap (λ (told : Told). told.refused) c.in-Ok.ensures) c.give_shown.ensures.gives
