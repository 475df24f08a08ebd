use Rattle.std.proofs.Common.{subst}
use Rattle.std.specs.Prelude.{Ok, Err}
use Rattle.std.proofs.lemmas.Result.{err_from_is_err_and}
use Rattle.cell_image.specs.ImageReads.{next_cell}
use Rattle.cell_image.specs.ImageTakes.{TakesCell}
use Rattle.cell_model.specs.declared.row.Listing.{Listing}
use Rattle.cell_image.proofs.Growing.{next_grows}
use Rattle.cell_image.proofs.StreamTurns.{not_on, reads_on}
use Rattle.cell_image.proofs.image_stream.ImageStream.take_cell.Goals as goal

pub returns-in-Ok-clause-takes : goal.returns-in-Ok-clause-takes
returns-in-Ok-clause-takes g c =
    let s = g.S.Source in
    let cells = c.loop-fault.listing.lines in
    subst (λ (l : Listing). TakesCell l.lines (s.taken c.args.source.now) (s.taken c.loop-fault.source) (s.left c.args.source.now) (s.left c.loop-fault.source) c.args.self.now (Ok c.in-Ok.field-0) c.cell.new.listing.lines c.cell.new.self) c.loop-fault.invariant.same
    (reads_on (s.taken c.args.source.now) (s.taken c.loop-fault.source) (s.left c.args.source.now) (s.left c.loop-fault.source) c.args.self.now c.loop-fault.self c.loop-fault.invariant.takes
    (λ _. c.cell.new.listing.lines) (next_cell cells) c.in-Ok.field-0 c.cell.new.self (next_grows cells c.loop-fault.self) c.in-Ok.ensures.adds)

pub returns-in_err-take_more-in-Err-clause-takes : goal.returns-in_err-take_more-in-Err-clause-takes
returns-in_err-take_more-in-Err-clause-takes g c =
    let s = g.S.Source in
    let cells = c.loop-fault.listing.lines in
    let p = err_from_is_err_and c.from_residual.result c.from_residual.ensures.1 in
    rw (p.1, p.2)
    (subst (λ (l : Listing). TakesCell l.lines (s.taken c.args.source.now) (s.taken c.take_more.new.source) (s.left c.args.source.now) (s.left c.take_more.new.source) c.args.self.now (Err c.in_err-take_more-in-Err.field-0.0) c.cell.new.listing.lines c.take_more.new.self) c.loop-fault.invariant.same
    (not_on (λ _. c.cell.new.listing.lines) (next_cell cells) (s.taken c.args.source.now) (s.taken c.loop-fault.source) (s.taken c.take_more.new.source) (s.left c.args.source.now) (s.left c.loop-fault.source) (s.left c.take_more.new.source) c.args.self.now c.loop-fault.self c.cell.new.self c.take_more.new.self
    c.loop-fault.invariant.takes c.in-Err.ensures.same.0 c.in-Err.fault c.in_err-take_more-in-Err.field-0.0 c.take_more.new.self (next_grows cells) c.in-Err.ensures.adds c.in_err-take_more-in-Err.ensures.takes))
