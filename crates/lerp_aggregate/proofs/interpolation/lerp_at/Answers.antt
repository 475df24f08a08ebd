use Rattle.std.proofs.Common.{◌-◌, ◌∙◌, w64, arith}
use Rattle.std.proofs.lemmas.Int.{to_z-of_z}
use Rattle.lerp_aggregate.proofs.Quotients.{computed}
use Rattle.lerp_aggregate.proofs.interpolation.lerp_at.Goals as goal

pub overflow_cast-result : goal.overflow_cast-result
overflow_cast-result c = (computed (c.args.x - c.args.x0) (c.args.x1 - c.args.x0) c.args.y0 c.args.y1 c.from-3.result c.from-2.result c.from.result c.part_of.result (omega arith) c.ranges.y0 c.ranges.y1 c.from-3.ensures c.from-2.ensures c.from.ensures c.part_of.ensures).0

pub returns : goal.returns
returns c =
    let both = computed (c.args.x - c.args.x0) (c.args.x1 - c.args.x0) c.args.y0 c.args.y1 c.from-3.result c.from-2.result c.from.result c.part_of.result (omega arith) c.ranges.y0 c.ranges.y1 c.from-3.ensures c.from-2.ensures c.from.ensures c.part_of.ensures in
    to_z-of_z w64 _ both.0 ∙ both.1
