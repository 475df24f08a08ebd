use Rattle.cell_model.specs.declared.events.Step.TheVariants.{PutPoint}
use Rattle.cell_model.specs.declared.events.Reply.TheVariants.{Written}
use Rattle.tsd_base.specs.Points.{data_point}
use Rattle.std.proofs.Common.{subst}
use Rattle.std.specs.Prelude.{OnErr}
use Rattle.cell_model.specs.Seen.{IsPossible}
use Rattle.uid_table.specs.NamedRows.{NamedRows}
use Rattle.uid_table.proofs.Keeping.{kept_on, step_on}
use Rattle.uid_table.proofs.uids.UidsRows.put_point.Goals as goal

pub invariant_of-self : goal.invariant_of-self
invariant_of-self g c = kept_on _ _ _ _ _ c.self.invariant (step_on _ _ (PutPoint (data_point c.args.point.now) c.args.row.now c.args.qual.now c.args.value.now) (λ x. Written) c.put_point.result c.put_point.ensures.ok c.put_point.ensures.err c.put_point.ensures.possible c.put_point.ensures.lives)

pub returns-clause-lives : goal.returns-clause-lives
returns-clause-lives g c = subst (λ (r : NamedRows _). OnErr c.put_point.result (IsPossible (g.R.Rows.seen r.rows) → IsPossible (g.R.Rows.seen c.put_point.new.self))) c.self.view_is c.put_point.ensures.lives
