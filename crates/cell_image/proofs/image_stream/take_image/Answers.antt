use Rattle.std.proofs.Common.{◌≡◌, ℕ, ◌+◌, ◌-◌, [], arith, refl, subst, sym}
use Rattle.std.specs.Prelude.{Ok, Err}
use Rattle.std.proofs.lemmas.Result.{err_from_is_err_and}
use Rattle.row_key.specs.declared.widths.Widths.{Widths}
use Rattle.cell_model.specs.declared.row.Listing.{Listing}
use Rattle.cell_image.specs.Images.{width_bytes}
use Rattle.cell_image.specs.ImageReads.{Spot, head_read}
use Rattle.cell_image.specs.ImageTakes.{TakesBy}
use Rattle.cell_image.proofs.StreamTurns.{IsReading, cell_on, cell_stops, ends_not, ends_so, head_begins, head_stops}
use Rattle.cell_image.proofs.image_stream.take_image.Goals as goal

pub returns-in_err-head-clause-takes : goal.returns-in_err-head-clause-takes
returns-in_err-head-clause-takes g c =
    let s = g.S.Source in
    let p = err_from_is_err_and c.from_residual-in_err-head.result c.from_residual-in_err-head.ensures.1 in
    rw (p.1, p.2)
    (head_stops (λ head. (width_bytes head.widths, head.number)) (s.taken c.args.source.now) (s.taken c.take_head.new.source) (s.left c.args.source.now) (s.left c.take_head.new.source) c.in_err-head.field-0.0 c.take_head.new.self
    (subst (λ (old : Spot). TakesBy (λ head. (width_bytes head.widths, head.number)) head_read (s.taken c.args.source.now) (s.taken c.take_head.new.source) (s.left c.args.source.now) (s.left c.take_head.new.source) old (Err c.in_err-head.field-0.0) c.take_head.new.self) c.in_ok-stream.ensures c.in_err-head.ensures.takes))

pub loop-done-init : goal.loop-done-init
loop-done-init g c =
    let s = g.S.Source in
    let n = c.in_ok-head.head.number in
    let all : n ≡ n - 0 = omega arith in
    let read = head_begins (λ head. (width_bytes head.widths, head.number)) (s.taken c.args.source.now) (s.taken c.take_head.new.source) (s.left c.args.source.now) (s.left c.take_head.new.source) c.in_ok-head.head c.take_head.new.self
    (subst (λ (old : Spot). TakesBy (λ head. (width_bytes head.widths, head.number)) head_read (s.taken c.args.source.now) (s.taken c.take_head.new.source) (s.left c.args.source.now) (s.left c.take_head.new.source) old (Ok c.in_ok-head.head) c.take_head.new.self) c.in_ok-stream.ensures c.in_ok-head.ensures.takes) in
    record {
      reads = subst (λ (l : Listing). IsReading (s.taken c.args.source.now) (s.taken c.take_head.new.source) (s.left c.args.source.now) (s.left c.take_head.new.source) (width_bytes l.widths) (n - 0) l.lines c.take_head.new.self) (sym c.none-listing.ensures)
          (subst (λ (k : ℕ). IsReading (s.taken c.args.source.now) (s.taken c.take_head.new.source) (s.left c.args.source.now) (s.left c.take_head.new.source) (width_bytes c.in_ok-head.head.widths) k [] c.take_head.new.self) all read);
      later = c.take_head.ensures.later;
    }

pub returns-in_err-take_cell-clause-takes : goal.returns-in_err-take_cell-clause-takes
returns-in_err-take_cell-clause-takes g c =
    let s = g.S.Source in
    let n = c.in_ok-head.head.number in
    let more = c.loop-done-test.true in
    let p = err_from_is_err_and c.from_residual-in_err-take_cell.result c.from_residual-in_err-take_cell.ensures.1 in
    rw (p.1, p.2)
    (cell_stops (s.taken c.args.source.now) (s.taken c.loop-done.source) (s.taken c.take_cell.new.source) (s.left c.args.source.now) (s.left c.loop-done.source) (s.left c.take_cell.new.source) (width_bytes c.loop-done.listing.widths) (n - c.loop-done.done) c.loop-done.listing.lines c.loop-done.stream
    c.loop-done.invariant.reads (λ _. c.take_cell.new.listing.lines) (n - (c.loop-done.done + 1)) c.in_err-take_cell.field-0.0 c.take_cell.new.self (omega (arith, more)) c.in_err-take_cell.ensures.takes)

pub loop-done-preserved : goal.loop-done-preserved
loop-done-preserved g c =
    let s = g.S.Source in
    let n = c.in_ok-head.head.number in
    let more = c.loop-done-test.true in
    record {
      reads = subst (λ (w : Widths). IsReading (s.taken c.args.source.now) (s.taken c.take_cell.new.source) (s.left c.args.source.now) (s.left c.take_cell.new.source) (width_bytes w) (n - (c.loop-done.done + 1)) c.take_cell.new.listing.lines c.take_cell.new.self) (sym c.take_cell.ensures.widths)
          (cell_on (s.taken c.args.source.now) (s.taken c.loop-done.source) (s.taken c.take_cell.new.source) (s.left c.args.source.now) (s.left c.loop-done.source) (s.left c.take_cell.new.source) (width_bytes c.loop-done.listing.widths) (n - c.loop-done.done) c.loop-done.listing.lines c.loop-done.stream
          c.loop-done.invariant.reads (λ _. c.take_cell.new.listing.lines) (n - (c.loop-done.done + 1)) c.in_ok-take_cell.field-0 c.take_cell.new.self (omega (arith, more)) c.in_ok-take_cell.ensures.takes);
      later = let a = c.loop-done.invariant.later in let b = c.take_cell.ensures.later in omega (arith, a, b);
    }

pub returns-in_err-take_end-clause-takes : goal.returns-in_err-take_end-clause-takes
returns-in_err-take_end-clause-takes g c =
    let s = g.S.Source in
    let n = c.in_ok-head.head.number in
    let end = c.loop-done-test.false in
    let p = err_from_is_err_and c.from_residual-in_err-take_end.result c.from_residual-in_err-take_end.ensures.1 in
    rw (p.1, p.2)
    (ends_not (s.taken c.args.source.now) (s.taken c.loop-done.source) (s.taken c.take_end.new.source) (s.left c.args.source.now) (s.left c.loop-done.source) (s.left c.take_end.new.source) (width_bytes c.loop-done.listing.widths) (n - c.loop-done.done) c.loop-done.listing.lines c.loop-done.stream
    c.loop-done.invariant.reads c.in_err-take_end.field-0.0 (omega (arith, end)) c.in_err-take_end.ensures.ends)

pub returns-clause-takes : goal.returns-clause-takes
returns-clause-takes g c =
    let s = g.S.Source in
    let n = c.in_ok-head.head.number in
    let end = c.loop-done-test.false in
    ends_so (s.taken c.args.source.now) (s.taken c.loop-done.source) (s.taken c.take_end.new.source) (s.left c.args.source.now) (s.left c.loop-done.source) (s.left c.take_end.new.source) (width_bytes c.loop-done.listing.widths) (n - c.loop-done.done) c.loop-done.listing.lines c.loop-done.stream
    c.loop-done.invariant.reads c.loop-done.listing refl refl (omega (arith, end)) c.in_ok-take_end.ensures.ends
