use Rattle.std.proofs.Common.{List, refl, sym, subst}
use Rattle.std.specs.Prelude.{false}
use Rattle.std.specs.Io.KnownBytes.{Appends}
use Rattle.cell_model.specs.declared.row.ListLine.{ListLine}
use Rattle.cell_listing.specs.Grammar.{cells_text}
use Rattle.listing_print.specs.GivenTexts.{GaveFront}
use Rattle.listing_job.specs.ListingJobs.{Fixed, Gives, Told}
use Rattle.listing_job.proofs.GivenTold.{gives_front, gives_part}
use Rattle.listing_job.proofs.OneText.{fixed_once}
use Rattle.listing_job.proofs.fix_job.give_fixed.Goals as goal

pub returns-in-Ok-give_cells-clause-gives : goal.returns-in-Ok-give_cells-clause-gives
returns-in-Ok-give_cells-clause-gives g c =
    let k = g.K.Sink in
    let cells = c.in-Ok.made.lines in
    let gives = subst (λ (l : List ListLine). Appends (k.held c.args.sink.now) (k.held c.give_cells.new.sink) (cells_text l)) c.lines.ensures.lines c.in-Ok-give_cells.ensures.ok in
    (record { refused = false; text = cells_text cells }, (cells, c.in-Ok.ensures.fixes, refl), refl, gives)

pub returns-in-Ok-clause-gives : goal.returns-in-Ok-clause-gives
returns-in-Ok-clause-gives g c =
    let k = g.K.Sink in
    let held = k.held c.args.sink.now in
    let held' = k.held c.give_cells.new.sink in
    let read = c.args.listed in
    let cells = c.in-Ok.made.lines in
    let shown : Told = record { refused = false; text = cells_text cells } in
    let front = subst (λ (l : List ListLine). GaveFront held held' (cells_text l)) c.lines.ensures.lines c.in-Err-give_cells.ensures.err in
    subst (Gives (Fixed read) held held') (sym c.end_of_give.ensures)
    (gives_part (Fixed read) held held' c.in-Err-give_cells.fault (gives_front (Fixed read) held held' shown (λ told is. fixed_once read told shown is (cells, c.in-Ok.ensures.fixes, refl)) front))
