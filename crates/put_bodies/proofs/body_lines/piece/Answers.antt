use Rattle.std.proofs.Common.{◌<◌, ◌-◌, length, get_or, take, drop, sym, ap, ◌∙◌, arith}
use Rattle.put_bodies.proofs.LineTexts.{piece_at, rise_at}
use Rattle.put_bodies.proofs.body_lines.piece.Goals as goal

pub slice_bounds-result-count : goal.slice_bounds-result-count
slice_bounds-result-count c =
    let lt : c.args.at < length c.args.ends.now = omega (arith, c.if-at-ends.false) in
    let rise = rise_at 0 c.args.ends.now (length c.args.text.now) c.args.at c.requires lt in
    omega (arith, rise.0, c.start.ensures)

pub slice_bounds-result-start : goal.slice_bounds-result-start
slice_bounds-result-start c =
    let lt : c.args.at < length c.args.ends.now = omega (arith, c.if-at-ends.false) in
    let rise = rise_at 0 c.args.ends.now (length c.args.text.now) c.args.at c.requires lt in
    omega (arith, rise.0, rise.1, c.start.ensures)

pub slice_bounds-result-end : goal.slice_bounds-result-end
slice_bounds-result-end c =
    let lt : c.args.at < length c.args.ends.now = omega (arith, c.if-at-ends.false) in
    let rise = rise_at 0 c.args.ends.now (length c.args.text.now) c.args.at c.requires lt in
    omega (arith, rise.0, rise.1, c.start.ensures)

pub returns : goal.returns
returns c =
    let lt : c.args.at < length c.args.ends.now = omega (arith, c.if-at-ends.false) in
    (lt, ap (λ k. take (get_or c.args.ends.now c.args.at 0 - k) (drop k c.args.text.now)) c.start.ensures ∙ sym (piece_at 0 c.args.ends.now c.args.text.now c.args.at lt))
