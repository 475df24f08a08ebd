use Rattle.std.proofs.Common.{◌≡◌, ℕ, ◌+◌, ◌-◌, [], ◌∙◌, ap, arith, subst, sym}
use Rattle.std.specs.Prelude.{Err}
use Rattle.std.proofs.lemmas.Result.{err_from_is_err_and}
use Rattle.row_key.specs.declared.widths.Widths.{Widths}
use Rattle.cell_model.specs.declared.row.Listing.{Listing}
use Rattle.cell_image.specs.Images.{width_bytes}
use Rattle.cell_image.specs.ImageReads.{head_read, image_read}
use Rattle.cell_image.specs.declared.image_fault.ImageFault.TheVariants.{Trailing}
use Rattle.cell_image.proofs.ReadTurns.{begins, ends, goes_on, left_to_read, stops, trails}
use Rattle.cell_image.proofs.image_reader.read_fields.Goals as goal

pub loop-done-init : goal.loop-done-init
loop-done-init c =
    let n = c.in_ok-head.head.number in
    let read = begins c.args.bytes.now (width_bytes c.in_ok-head.head.widths) n c.head.new.self (ap head_read (sym c.of-fields.ensures) ∙ c.in_ok-head.ensures) in
    let all : n ≡ n - 0 = omega arith in
    subst (λ (l : Listing). image_read c.args.bytes.now ≡ left_to_read (width_bytes l.widths) (n - 0) l.lines c.head.new.self) (sym c.none-listing.ensures)
    (read ∙ ap (λ (k : ℕ). left_to_read (width_bytes c.in_ok-head.head.widths) k [] c.head.new.self) all)

pub returns-in_err-add_cell : goal.returns-in_err-add_cell
returns-in_err-add_cell c =
    let n = c.in_ok-head.head.number in
    let more = c.loop-done-test.true in
    let p = err_from_is_err_and c.from_residual-in_err-add_cell.result c.from_residual-in_err-add_cell.ensures.1 in
    rw (p.1, p.2)
    (stops (image_read c.args.bytes.now) (width_bytes c.loop-done.listing.widths) (n - c.loop-done.done) (n - (c.loop-done.done + 1)) c.loop-done.listing.lines c.loop-done.fields c.in_err-add_cell.field-0.0 (omega (arith, more)) c.loop-done.invariant c.in_err-add_cell.ensures.adds)

pub loop-done-preserved : goal.loop-done-preserved
loop-done-preserved c =
    let n = c.in_ok-head.head.number in
    let more = c.loop-done-test.true in
    subst (λ (w : Widths). image_read c.args.bytes.now ≡ left_to_read (width_bytes w) (n - (c.loop-done.done + 1)) c.add_cell.new.listing.lines c.add_cell.new.fields) (sym c.add_cell.ensures.widths)
    (goes_on (image_read c.args.bytes.now) (width_bytes c.loop-done.listing.widths) (n - c.loop-done.done) (n - (c.loop-done.done + 1)) c.loop-done.listing.lines c.add_cell.new.listing.lines c.loop-done.fields c.add_cell.new.fields (omega (arith, more)) c.loop-done.invariant c.in_ok-add_cell.ensures.adds)

pub returns-then-not-is_at_end : goal.returns-then-not-is_at_end
returns-then-not-is_at_end c =
    let n = c.in_ok-head.head.number in
    let end = c.loop-done-test.false in
    trails (image_read c.args.bytes.now) (width_bytes c.loop-done.listing.widths) (n - c.loop-done.done) c.loop-done.listing.lines c.loop-done.fields (omega (arith, end)) c.loop-done.invariant (sym c.is_at_end.ensures ∙ c.if-not-is_at_end.true) ∙ ap (λ (at : ℕ). Err (Trailing at)) (sym c.at.ensures)

pub returns : goal.returns
returns c =
    let n = c.in_ok-head.head.number in
    let end = c.loop-done-test.false in
    ends (image_read c.args.bytes.now) (width_bytes c.loop-done.listing.widths) (n - c.loop-done.done) c.loop-done.listing.lines c.loop-done.fields (omega (arith, end)) c.loop-done.invariant (sym c.is_at_end.ensures ∙ c.if-not-is_at_end.false)
