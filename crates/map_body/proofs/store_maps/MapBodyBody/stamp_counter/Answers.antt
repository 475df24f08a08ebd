use Rattle.map_body.proofs.store_maps.MapBodyBody.stamp_counter.Goals as goal
use Rattle.map_body.proofs.Changes.{counter_stamped}
use Rattle.cell_model.specs.Machine.{kind_qual}
use Rattle.std.proofs.Common.{sym, subst}
use Rattle.map_body.proofs.Counted.{counters_stamped}
use Rattle.map_body.specs.Counting.{AllCounters}

pub invariant_of-self : goal.invariant_of-self
invariant_of-self c = (c.self.invariant.0, c.self.invariant.1, subst (AllCounters c.self.inside.widths) (sym c.stamp.ensures) (counters_stamped c.self.inside.widths c.self.inside.counters (kind_qual c.args.kind) c.args.place c.self.invariant.2))

pub returns-clause-content : goal.returns-clause-content
returns-clause-content c = rw (← c.self.view_is) (counter_stamped c.self.inside.widths c.self.inside.tables c.self.inside.counters c.stamp.new.self c.self.invariant.0 (kind_qual c.args.kind) c.args.place c.stamp.ensures)
