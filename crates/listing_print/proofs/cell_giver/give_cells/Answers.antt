use Rattle.std.proofs.Common.{rules, ℕ, List, ◌+◌, drop, subst, arith}
use Rattle.cell_listing.specs.Grammar.{cells_text}
use Rattle.listing_print.specs.GivenTexts.{GaveFront}
use Rattle.listing_print.proofs.GivenCells.{gives_on, on_err, waits_on, with_front}
use Rattle.listing_print.proofs.cell_giver.give_cells.Goals as goal

pub returns-in_err-give_full-clause-err : goal.returns-in_err-give_full-clause-err
returns-in_err-give_full-clause-err g c =
    let k = g.K.Sink in
    let cells = c.args.cells.now in
    let waits = waits_on (k.held c.args.sink.now) (k.held c.loop-at.sink) c.loop-at.text.items c.push_line.new.text.items cells c.loop-at.at c.index-cells-at.result (cells_text cells) (search rules) (search rules) (search rules) c.loop-at.invariant.printing in
    on_err c.from_residual-in_err-give_full.result _
    (with_front (k.held c.args.sink.now) (k.held c.loop-at.sink) (k.held c.give_full.new.sink) c.push_line.new.text.items (drop (c.loop-at.at + 1) cells) (cells_text cells) waits c.in_err-give_full.ensures.err)

pub loop-at-preserved : goal.loop-at-preserved
loop-at-preserved g c =
    let k = g.K.Sink in
    let cells = c.args.cells.now in
    let waits = waits_on (k.held c.args.sink.now) (k.held c.loop-at.sink) c.loop-at.text.items c.push_line.new.text.items cells c.loop-at.at c.index-cells-at.result (cells_text cells) (search rules) (search rules) (search rules) c.loop-at.invariant.printing in
    record {
      printing = gives_on (k.held c.args.sink.now) (k.held c.loop-at.sink) (k.held c.give_full.new.sink) c.push_line.new.text.items c.give_full.new.text.items (drop (c.loop-at.at + 1) cells) (cells_text cells) waits c.in_ok-give_full.ensures.ok;
      later = let a = c.loop-at.invariant.later in let b = c.give_full.ensures.cause.later in omega (arith, a, b);
    }

pub returns-in_err-give_text-clause-err : goal.returns-in_err-give_text-clause-err
returns-in_err-give_text-clause-err g c =
    let k = g.K.Sink in
    let cells = c.args.cells.now in
    let front = subst (λ (text : List ℕ). GaveFront (k.held c.loop-at.sink) (k.held c.give_text.new.sink) text) c.deref.ensures.value c.in_err-give_text.ensures.err in
    on_err c.from_residual-in_err-give_text.result _ (with_front (k.held c.args.sink.now) (k.held c.loop-at.sink) (k.held c.give_text.new.sink) c.loop-at.text.items (drop c.loop-at.at cells) (cells_text cells) c.loop-at.invariant.printing front)
