use Rattle.std.proofs.Common.{◌≡◌, List, ℕ, refl, sym, subst}
use Rattle.std.specs.Io.KnownBytes.{Appends}
use Rattle.listing_print.specs.GivenTexts.{GaveFront}
use Rattle.listing_job.specs.ListingJobs.{Gives, Told}
use Rattle.listing_job.specs.Shows.{told_of}
use Rattle.listing_job.proofs.GivenTold.{gives_front, gives_told}
use Rattle.listing_job.proofs.shown.give_shown.Goals as goal

pub returns-in-Ok-clause-gives : goal.returns-in-Ok-clause-gives
returns-in-Ok-clause-gives g c =
    let k = g.K.Sink in
    let held = k.held c.args.sink.now in
    let held' = k.held c.give_text.new.sink in
    let shown = told_of c.args.shown.now in
    let gives = subst (λ (text : List ℕ). Appends held held' text) c.deref.ensures.value c.in-Ok.ensures.ok in
    subst (Gives (λ (told : Told). told ≡ shown) held held') (sym c.told_end.ensures.end) (gives_told (λ (told : Told). told ≡ shown) held held' shown c.args.shown.now.refused refl refl gives)

pub returns-in-Err-clause-gives : goal.returns-in-Err-clause-gives
returns-in-Err-clause-gives g c =
    let k = g.K.Sink in
    let held = k.held c.args.sink.now in
    let held' = k.held c.give_text.new.sink in
    let shown = told_of c.args.shown.now in
    gives_front (λ (told : Told). told ≡ shown) held held' shown (λ told is. is) (subst (λ (text : List ℕ). GaveFront held held' text) c.deref.ensures.value c.in-Err.ensures.err)
