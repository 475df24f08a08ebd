use Rattle.cell_model.specs.declared.events.Step.TheVariants.{NextRow}
use Rattle.cell_model.specs.declared.events.Reply.TheVariants.{Next}
use Rattle.uid_table.proofs.Keeping.{kept_on, step_on}
use Rattle.uid_table.proofs.uids.UidsRows.next_row.Goals as goal

pub invariant_of-self : goal.invariant_of-self
invariant_of-self g c = kept_on _ _ _ _ _ c.self.invariant (step_on _ _ (NextRow c.args.table c.args.from.now c.args.to.now) Next c.next_row.result c.next_row.ensures.ok c.next_row.ensures.err c.next_row.ensures.possible c.next_row.ensures.lives)
