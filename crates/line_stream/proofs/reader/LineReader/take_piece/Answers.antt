use Rattle.std.proofs.Common.{◌∙◌, ap, arith, length}
use Rattle.line_stream.proofs.ReaderLemmas.{feeds_count, feeds_none}
use Rattle.line_stream.proofs.reader.LineReader.take_piece.Goals as goal

pub invariant_of-self : goal.invariant_of-self
invariant_of-self g c =
    let i = c.self.invariant in
    let same = ap length (feeds_none _ _ _ _ _ _ _ c.in_err-count.field-0.0 c.in_err-count.ensures.feeds) in
    record { piece = c.take_within.ensures.size ∙ i.piece; lines = (let n = i.lines in omega (arith, same, n)); taken = i.taken }

pub invariant_of-self-2 : goal.invariant_of-self-2
invariant_of-self-2 g c =
    let i = c.self.invariant in
    let n = feeds_count _ _ _ _ _ _ _ c.in_ok-count.count c.in_ok-count.ensures.feeds in
    record {
      piece = c.take_within.ensures.size ∙ i.piece;
      lines = (let l = n.0 in let k = i.lines in omega (arith, l, k));
      taken = (let most = n.1 in let room = c.min-room.ensures in let t = i.taken in omega (arith, most, room, t));
    }
