use Rattle.std.proofs.Common.{ℕ, ap, arith, length, subst}
use Rattle.std.proofs.lemmas.List.{length-take-le}
use Rattle.line_stream.specs.Reads.{Feeds}
use Rattle.cell_image.proofs.image_stream.take_within.Goals as goal

pub returns-clause-feeds : goal.returns-clause-feeds
returns-clause-feeds g c =
    let s = g.S.Source in
    let items = c.deref_mut.result.now in
    let same = ap length c.deref_mut.ensures.value in
    let within = c.requires.within in
    subst (λ (n : ℕ). Feeds (s.taken c.args.source.now) (s.taken c.take_into.new.source) (s.left c.args.source.now) (s.left c.take_into.new.source) c.args.buffer.now n c.take_into.result c.take_into.new.buffer)
    (length-take-le c.args.room items (omega (arith, same, within))) c.take_into.ensures.feeds
