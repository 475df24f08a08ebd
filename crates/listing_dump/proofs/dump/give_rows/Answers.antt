use Rattle.std.proofs.Common.{ℕ, List, ◌++◌, ◌<◌, length, subst, sym, ap, ◌∙◌, arith}
use Rattle.cell_model.specs.declared.row.ListLine.{ListLine}
use Rattle.listing_dump.specs.Gifts.{Gives, GivesSome}
use Rattle.listing_dump.specs.RowPoints.{row_at, row_text}
use Rattle.listing_dump.proofs.Giving.{at_err, on_both, on_err}
use Rattle.listing_dump.proofs.RowSteps.{all_given, last_given, more_given, no_more_given, none_given, some_given}
use Rattle.listing_dump.proofs.RowTexts.{names_there}
use Rattle.listing_dump.proofs.Turns.{line_at}
use Rattle.listing_dump.proofs.dump.give_rows.Goals as goal

pub loop-row-init : goal.loop-row-init
loop-row-init g c = record {
  gave = none_given c.args.listing.now c.lines-cells.ensures.rising c.requires.sound c.args.rows.now c.requires.rows (g.K.Sink.held c.args.output.now) c.new-waiting.result.items c.new-waiting.ensures.items;
  later = omega (arith);
}

pub row_at-requires : goal.row_at-requires
row_at-requires g c =
    subst (λ (xs : List ListLine). c.row-item.result.metric < length xs) (sym c.lines-cells.ensures.lines)
    (names_there c.args.listing.now c.row-item.result (c.requires.rows.each c.row-item.result (c.loop-row.row-index, c.loop-row-test.true, sym c.row-item.is))).1

pub loop-row-preserved : goal.loop-row-preserved
loop-row-preserved g c =
    let held = g.K.Sink.held in
    let l = c.args.listing.now in
    let r = c.row-item.result in
    record {
      gave = more_given l c.lines-cells.ensures.rising c.requires.sound c.args.rows.now c.requires.rows c.loop-row.row-index r (held c.args.output.now) (held c.loop-row.output) (held c.give_row.new.output) c.loop-row.waiting.items c.give_row.new.waiting.items
          (row_text (row_at l.lines r.metric) r.base c.load_row.new.tail.items c.load_row.new.dots.items) (line_at c.args.rows.now c.loop-row.row-index r c.loop-row-test.true c.row-item.is) c.loop-row.invariant.gave c.in_ok-load_row.ensures
          (subst (λ (t : List ℕ). Gives (held c.loop-row.output) (held c.give_row.new.output) t c.give_row.new.waiting.items)
          (λ i. c.loop-row.waiting.items ++ row_text ((c.row_at.ensures ∙ ap (λ (xs : List ListLine). row_at xs r.metric) c.lines-cells.ensures.lines) i) r.base (c.deref.ensures.value i) (c.deref-in-loop-row.ensures.value i)) c.in_ok-give_row.ensures.ok);
      later = let a = c.loop-row.invariant.later in let b = c.give_row.ensures.caused.later in omega (arith, a, b);
    }

pub returns-in_err-load_row-clause-err : goal.returns-in_err-load_row-clause-err
returns-in_err-load_row-clause-err g c =
    at_err c.from_residual.result
    (no_more_given c.args.listing.now c.lines-cells.ensures.rising c.requires.sound c.args.rows.now c.requires.rows c.loop-row.row-index (g.K.Sink.held c.args.output.now) (g.K.Sink.held c.loop-row.output) c.loop-row.waiting.items c.loop-row.invariant.gave)

pub returns-in_err-give_row-clause-err : goal.returns-in_err-give_row-clause-err
returns-in_err-give_row-clause-err g c =
    let held = g.K.Sink.held in
    let l = c.args.listing.now in
    let r = c.row-item.result in
    at_err c.from_residual-in_err-give_row.result
    (some_given l c.lines-cells.ensures.rising c.requires.sound c.args.rows.now c.requires.rows c.loop-row.row-index r (held c.args.output.now) (held c.loop-row.output) (held c.give_row.new.output) c.loop-row.waiting.items
    (row_text (row_at l.lines r.metric) r.base c.load_row.new.tail.items c.load_row.new.dots.items) (line_at c.args.rows.now c.loop-row.row-index r c.loop-row-test.true c.row-item.is) c.loop-row.invariant.gave c.in_ok-load_row.ensures
    (subst (GivesSome (held c.loop-row.output) (held c.give_row.new.output))
    (λ i. c.loop-row.waiting.items ++ row_text ((c.row_at.ensures ∙ ap (λ (xs : List ListLine). row_at xs r.metric) c.lines-cells.ensures.lines) i) r.base (c.deref.ensures.value i) (c.deref-in-loop-row.ensures.value i)) c.in_err-give_row.ensures.err))

pub returns-clause-ok : goal.returns-clause-ok
returns-clause-ok g c =
    let held = g.K.Sink.held in
    on_both c.give_waiting.result
    (λ gives none.
    all_given c.args.listing.now c.lines-cells.ensures.rising c.requires.sound c.args.rows.now c.requires.rows c.loop-row.row-index (held c.args.output.now) (held c.loop-row.output) (held c.give_waiting.new.output) c.loop-row.waiting.items c.loop-row-test.false
    c.loop-row.invariant.gave (subst (Gives (held c.loop-row.output) (held c.give_waiting.new.output) c.loop-row.waiting.items) none gives))
    c.give_waiting.ensures.ok c.give_waiting.ensures.none

pub returns-clause-err : goal.returns-clause-err
returns-clause-err g c =
    let held = g.K.Sink.held in
    on_err c.give_waiting.result
    (last_given c.args.listing.now c.lines-cells.ensures.rising c.requires.sound c.args.rows.now c.requires.rows c.loop-row.row-index (held c.args.output.now) (held c.loop-row.output) (held c.give_waiting.new.output) c.loop-row.waiting.items c.loop-row.invariant.gave)
    c.give_waiting.ensures.err
