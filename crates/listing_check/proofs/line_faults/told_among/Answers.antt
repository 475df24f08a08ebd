use Rattle.std.proofs.Common.{arith, refl, rules, sym, ◌∙◌}
use Rattle.listing_check.proofs.KnownRows.{none_known}
use Rattle.listing_check.proofs.LineTurns.{all_told, cell_told, lines_count, none_told, other_told, within}
use Rattle.listing_check.proofs.NoteTurns.{all_noted, cell_noted, kept_at, none_kept, none_noted, other_noted}
use Rattle.listing_check.proofs.SoundReports.{report_of}
use Rattle.listing_check.proofs.line_faults.told_among.Goals.{then-is_next+in_ok-push, else-is_next+in_ok-tell_cell}
use Rattle.listing_check.proofs.line_faults.told_among.Goals as goal

pub loop-done-init : goal.loop-done-init
loop-done-init c = record {
  told = λ lines a b. none_told c.args.widths lines c.args.cells.now c.args.others.now _ a b (search rules);
  noted = λ lines a b. none_noted c.args.widths lines c.args.cells.now c.args.others.now _ a b (search rules);
  known = none_known c.args.widths c.args.cells.now _ refl;
  kept = none_kept c.args.widths c.args.cells.now _ _ refl;
}

pub tell_cell-requires : goal.tell_cell-requires
tell_cell-requires c =
    let p = c.requires.parts in
    let count = lines_count p.lines c.args.cells.now c.args.others.now p.cells_are p.others_are in
    let below = c.loop-done-test.true in
    record {
      rising = c.requires.rising;
      within = within c.args.widths p.lines c.args.cells.now c.args.others.now c.loop-done.done c.loop-done.next c.loop-done.faults.items c.loop-done.faults.items (c.loop-done.invariant.told p.lines p.cells_are p.others_are) (omega (arith, count, below)) (sym c.is_next.ensures ∙ c.if-is_next.false);
      seen = c.loop-done.invariant.kept;
      known = c.loop-done.invariant.known;
    }

pub loop-done-preserved : goal.loop-done-preserved
loop-done-preserved c =
    let p = c.requires.parts in
    let le = (c.loop-done.invariant.told p.lines p.cells_are p.others_are).position.le in
    let below = c.loop-done-test.true in
    record {
      told = λ lines a b.
          (let count = lines_count lines c.args.cells.now c.args.others.now a b in
          elim c.if-is_next.branch [
            | then-is_next+in_ok-push w ↦
                rw (w.faults-is, w.next-is) (other_told c.args.widths lines c.args.cells.now c.args.others.now c.loop-done.done c.loop-done.next c.loop-done.faults.items w.push.new.self.items (c.loop-done.invariant.told lines a b) (omega (arith, count, below)) (sym c.is_next.ensures ∙ w.if-is_next.true) w.in_ok-push.ensures.items)
            | else-is_next+in_ok-tell_cell w ↦
                (let t = w.in_ok-tell_cell.ensures.told in
                rw (w.faults-is, w.next-is) (cell_told c.args.widths lines c.args.cells.now c.args.others.now c.loop-done.done c.loop-done.next c.loop-done.faults.items w.tell_cell.new.faults.items (c.loop-done.invariant.told lines a b) (omega (arith, count, below)) (sym c.is_next.ensures ∙ w.if-is_next.false) t.cell t.flaw t.is.is t.flaw_is t.faults_are))
          ]);
      noted = λ lines a b.
          (let count = lines_count lines c.args.cells.now c.args.others.now a b in
          elim c.if-is_next.branch [
            | then-is_next+in_ok-push w ↦
                rw (w.notes-is, w.next-is) (other_noted c.args.widths lines c.args.cells.now c.args.others.now c.loop-done.done c.loop-done.next c.loop-done.notes.items c.loop-done.notes.items (c.loop-done.invariant.noted lines a b) (omega (arith, count, below)) (sym c.is_next.ensures ∙ w.if-is_next.true) refl)
            | else-is_next+in_ok-tell_cell w ↦
                (let t = w.in_ok-tell_cell.ensures.told in
                rw (w.notes-is, w.next-is) (cell_noted c.args.widths lines c.args.cells.now c.args.others.now c.loop-done.done c.loop-done.next c.loop-done.notes.items w.tell_cell.new.notes.items (c.loop-done.invariant.noted lines a b) (omega (arith, count, below)) (sym c.is_next.ensures ∙ w.if-is_next.false) t.cell t.note t.is t.note_is.note_is t.notes_are))
          ]);
      known = elim c.if-is_next.branch [
        | then-is_next+in_ok-push w ↦ rw w.known-is c.loop-done.invariant.known
        | else-is_next+in_ok-tell_cell w ↦ rw w.known-is w.in_ok-tell_cell.ensures.known
      ];
      kept = elim c.if-is_next.branch [
        | then-is_next+in_ok-push w ↦ rw (w.values-is, w.next-is) (kept_at c.args.widths c.args.cells.now _ _ c.loop-done.values (omega (arith, le)) c.loop-done.invariant.kept)
        | else-is_next+in_ok-tell_cell w ↦ rw (w.values-is, w.next-is) (kept_at c.args.widths c.args.cells.now _ _ w.tell_cell.new.values (omega (arith, le)) w.in_ok-tell_cell.ensures.told.note_is.kept)
      ];
    }

pub returns : goal.returns
returns c = λ read widths_are a b.
    (let count = lines_count read.lines c.args.cells.now c.args.others.now a b in
    let end = c.loop-done-test.false in
    report_of read c.args.widths c.args.cells.now _ widths_are a
    (all_told c.args.widths read.lines c.args.cells.now c.args.others.now c.loop-done.done c.loop-done.next c.loop-done.faults.items (omega (arith, count, end)) (c.loop-done.invariant.told read.lines a b))
    (all_noted c.args.widths read.lines c.args.cells.now c.args.others.now c.loop-done.done c.loop-done.next c.loop-done.notes.items (omega (arith, count, end)) (c.loop-done.invariant.noted read.lines a b)))
