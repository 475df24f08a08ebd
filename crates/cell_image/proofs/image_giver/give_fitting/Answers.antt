use Rattle.std.proofs.Common.{rules, ℕ, List, ◌+◌, ◌∙◌, ap, drop, subst, arith}
use Rattle.std.specs.Io.KnownBytes.{Appends}
use Rattle.listing_print.specs.GivenTexts.{GaveFront}
use Rattle.cell_image.specs.Images.{first_large, image}
use Rattle.cell_image.proofs.CellLoops.{each_fits}
use Rattle.cell_image.proofs.GiveTurns.{ends, gives_on, is_front, on_err, waits_on, with_front}
use Rattle.cell_image.proofs.image_giver.give_fitting.Goals as goal

pub push_cell-requires : goal.push_cell-requires
push_cell-requires g c = each_fits c.lines-cells.result.now (ap first_large c.lines-cells.ensures.lines ∙ c.requires) c.loop-at.at c.index-cells-at.result (search rules) (search rules)

pub returns-in_err-push_cell-clause-err : goal.returns-in_err-push_cell-clause-err
returns-in_err-push_cell-clause-err g c =
    let k = g.K.Sink in
    on_err c.from_residual-in_err-push_cell.result _
    (is_front (k.held c.args.sink.now) (k.held c.loop-at.sink) c.loop-at.bytes.items (drop c.loop-at.at c.lines-cells.result.now) (image c.args.listing.now) c.loop-at.invariant.giving)

pub returns-in_err-give_full-clause-err : goal.returns-in_err-give_full-clause-err
returns-in_err-give_full-clause-err g c =
    let k = g.K.Sink in
    let cells = c.lines-cells.result.now in
    let waits = waits_on (k.held c.args.sink.now) (k.held c.loop-at.sink) c.loop-at.bytes.items c.push_cell.new.bytes.items cells c.loop-at.at c.index-cells-at.result (image c.args.listing.now) (search rules) (search rules) c.in_ok-push_cell.ensures c.loop-at.invariant.giving in
    on_err c.from_residual-in_err-give_full.result _
    (with_front (k.held c.args.sink.now) (k.held c.loop-at.sink) (k.held c.give_full.new.sink) c.push_cell.new.bytes.items (drop (c.loop-at.at + 1) cells) (image c.args.listing.now) waits c.in_err-give_full.ensures.err)

pub loop-at-preserved : goal.loop-at-preserved
loop-at-preserved g c =
    let k = g.K.Sink in
    let cells = c.lines-cells.result.now in
    let waits = waits_on (k.held c.args.sink.now) (k.held c.loop-at.sink) c.loop-at.bytes.items c.push_cell.new.bytes.items cells c.loop-at.at c.index-cells-at.result (image c.args.listing.now) (search rules) (search rules) c.in_ok-push_cell.ensures c.loop-at.invariant.giving in
    record {
      giving = gives_on (k.held c.args.sink.now) (k.held c.loop-at.sink) (k.held c.give_full.new.sink) c.push_cell.new.bytes.items c.give_full.new.bytes.items (drop (c.loop-at.at + 1) cells) (image c.args.listing.now) waits c.in_ok-give_full.ensures.ok;
      later = let a = c.loop-at.invariant.later in let b = c.give_full.ensures.cause.later in omega (arith, a, b);
    }

pub returns-in_err-give_text-clause-err : goal.returns-in_err-give_text-clause-err
returns-in_err-give_text-clause-err g c =
    let k = g.K.Sink in
    let cells = c.lines-cells.result.now in
    let front = subst (λ (text : List ℕ). GaveFront (k.held c.loop-at.sink) (k.held c.give_text.new.sink) text) c.deref.ensures.value c.in_err-give_text.ensures.err in
    on_err c.from_residual-in_err-give_text.result _ (with_front (k.held c.args.sink.now) (k.held c.loop-at.sink) (k.held c.give_text.new.sink) c.loop-at.bytes.items (drop c.loop-at.at cells) (image c.args.listing.now) c.loop-at.invariant.giving front)

pub returns-clause-ok : goal.returns-clause-ok
returns-clause-ok g c =
    let k = g.K.Sink in
    let cells = c.lines-cells.result.now in
    let gave = subst (λ (text : List ℕ). Appends (k.held c.loop-at.sink) (k.held c.give_text.new.sink) text) c.deref.ensures.value c.in_ok-give_text.ensures.ok in
    ends (k.held c.args.sink.now) (k.held c.loop-at.sink) (k.held c.give_text.new.sink) c.loop-at.bytes.items cells c.loop-at.at (image c.args.listing.now) (search rules) c.loop-at.invariant.giving gave
