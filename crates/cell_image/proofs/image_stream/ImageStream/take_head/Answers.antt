use Rattle.std.proofs.Common.{arith}
use Rattle.std.proofs.lemmas.Result.{err_from_is_err_and}
use Rattle.cell_image.specs.Images.{width_bytes}
use Rattle.cell_image.specs.ImageReads.{head_read}
use Rattle.cell_image.proofs.Growing.{head_grows}
use Rattle.cell_image.proofs.ReadTurns.{is_fault}
use Rattle.cell_image.proofs.StreamTurns.{more_on, not_on, reads_on}
use Rattle.cell_image.proofs.image_stream.ImageStream.take_head.Goals as goal

pub returns-in-Ok-clause-takes : goal.returns-in-Ok-clause-takes
returns-in-Ok-clause-takes g c =
    let s = g.S.Source in
    reads_on (s.taken c.args.source.now) (s.taken c.loop-head.source) (s.left c.args.source.now) (s.left c.loop-head.source) c.args.self.now c.loop-head.self c.loop-head.invariant.takes
    (λ head. (width_bytes head.widths, head.number)) head_read c.in-Ok.head c.head.new.self (head_grows c.loop-head.self) c.in-Ok.ensures.reads

pub loop-head-preserved : goal.loop-head-preserved
loop-head-preserved g c =
    let s = g.S.Source in
    record {
      takes = more_on (s.taken c.args.source.now) (s.taken c.loop-head.source) (s.taken c.take_more.new.source) (s.left c.args.source.now) (s.left c.loop-head.source) (s.left c.take_more.new.source) c.args.self.now c.loop-head.self c.head.new.self c.take_more.new.self
          c.loop-head.invariant.takes c.in-Err.ensures.same c.in-Err.fault c.in_ok-take_more-in-Err.field-0 c.in_ok-take_more-in-Err.ensures.takes;
      later = let a = c.loop-head.invariant.later in let b = c.take_more.ensures.later in omega (arith, a, b);
    }

pub returns-in_err-take_more-in-Err-clause-takes : goal.returns-in_err-take_more-in-Err-clause-takes
returns-in_err-take_more-in-Err-clause-takes g c =
    let s = g.S.Source in
    let p = err_from_is_err_and c.from_residual.result c.from_residual.ensures.1 in
    rw (p.1, p.2)
    (not_on (λ head. (width_bytes head.widths, head.number)) head_read (s.taken c.args.source.now) (s.taken c.loop-head.source) (s.taken c.take_more.new.source) (s.left c.args.source.now) (s.left c.loop-head.source) (s.left c.take_more.new.source) c.args.self.now c.loop-head.self c.head.new.self c.take_more.new.self
    c.loop-head.invariant.takes c.in-Err.ensures.same c.in-Err.fault c.in_err-take_more-in-Err.field-0.0 c.take_more.new.self head_grows (is_fault c.in-Err.fault (head_read c.loop-head.self) c.in-Err.ensures.reads) c.in_err-take_more-in-Err.ensures.takes)
