use Rattle.std.proofs.Common.{ap, ◌∙◌}
use Rattle.map_body.proofs.store_maps.MapBodyBody.bump.Goals as goal
use Rattle.cell_model.specs.KindWidths.{most_ids}
use Rattle.map_body.proofs.Bodies.{full_reply, full_stays, given_counters, given_reply, given_written}

pub returns-then-given-most-clause-reply : goal.returns-then-given-most-clause-reply
returns-then-given-most-clause-reply c = rw (← c.self.view_is) (full_reply c.self.inside.widths c.self.inside.tables c.self.inside.counters c.self.inside.counters c.self.invariant.0 c.args.kind c.number-given.result c.most_ids-most.result c.number-given.ensures (c.most_ids-most.ensures ∙ ap most_ids c.width_of.ensures.width) c.if-given-most.true)

pub returns-then-given-most-clause-content : goal.returns-then-given-most-clause-content
returns-then-given-most-clause-content c = rw (← c.self.view_is) (full_stays c.self.inside.widths c.self.inside.tables c.self.inside.counters c.self.inside.counters c.self.invariant.0 c.args.kind c.number-given.result c.most_ids-most.result c.number-given.ensures (c.most_ids-most.ensures ∙ ap most_ids c.width_of.ensures.width) c.if-given-most.true _)

pub invariant_of-self : goal.invariant_of-self
invariant_of-self c = (c.self.invariant.0, c.self.invariant.1, given_counters c.self.inside.widths c.self.inside.tables c.self.inside.counters c.set.new.self c.self.invariant.0 c.args.kind c.number-given.result c.most_ids-most.result c.number-given.ensures (c.most_ids-most.ensures ∙ ap most_ids c.width_of.ensures.width) c.if-given-most.false c.set.ensures c.self.invariant.2)

pub returns-clause-reply : goal.returns-clause-reply
returns-clause-reply c = rw (← c.self.view_is) (given_reply c.self.inside.widths c.self.inside.tables c.self.inside.counters c.set.new.self c.self.invariant.0 c.args.kind c.number-given.result c.most_ids-most.result c.number-given.ensures (c.most_ids-most.ensures ∙ ap most_ids c.width_of.ensures.width) c.if-given-most.false)

pub returns-clause-content : goal.returns-clause-content
returns-clause-content c = rw (← c.self.view_is) (given_written c.self.inside.widths c.self.inside.tables c.self.inside.counters c.set.new.self c.self.invariant.0 c.args.kind c.number-given.result c.most_ids-most.result c.number-given.ensures (c.most_ids-most.ensures ∙ ap most_ids c.width_of.ensures.width) c.if-given-most.false c.set.ensures)
