use Rattle.std.proofs.Common.{◌&&◌, sym, subst}
use Rattle.std.specs.List.{filter_map}
use Rattle.lerp_aggregate.specs.Aggregation.{given_at}
use Rattle.lerp_aggregate.specs.Tally.{Adds}
use Rattle.lerp_aggregate.specs.Walks.{series_of}
use Rattle.lerp_aggregate.proofs.Walking.{adds_none, skipped_bundle, skips, late_bundle}
use Rattle.lerp_aggregate.proofs.cursors.Bundle.turn.Goals as goal

pub returns-then-is_due-clause-adds : goal.returns-then-is_due-clause-adds
returns-then-is_due-clause-adds c =
    subst (λ cs. Adds c.args.tally.now c.turn_all-self.new.tally (filter_map (λ series. given_at c.args.between series c.args.time) (series_of c.args.list.now cs))) c.as_mut_slice.ensures.value c.turn_all-self.ensures.adds

pub returns-else-is_due-clause-stand : goal.returns-else-is_due-clause-stand
returns-else-is_due-clause-stand c =
    let list = c.args.list.now in
    let time = c.args.time in
    let self = c.args.self.now in
    (skipped_bundle list c.args.between time self c.requires.stand (skips (c.args.between && self.ahead.inside) time self.ahead.next (late_bundle list time self c.requires.stand) (sym c.if-is_due.ensures))).1

pub returns-else-is_due-clause-adds : goal.returns-else-is_due-clause-adds
returns-else-is_due-clause-adds c =
    let list = c.args.list.now in
    let time = c.args.time in
    let self = c.args.self.now in
    adds_none list c.args.tally.now (filter_map (λ series. given_at c.args.between series time) (series_of list self.cursors.items)) (skipped_bundle list c.args.between time self c.requires.stand (skips (c.args.between && self.ahead.inside) time self.ahead.next (late_bundle list time self c.requires.stand) (sym c.if-is_due.ensures))).0
