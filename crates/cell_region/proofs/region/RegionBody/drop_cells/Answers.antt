use Rattle.std.proofs.Common.{ap, subst, sym}
use Rattle.cell_model.specs.Store.{Store}
use Rattle.cell_laws.specs.StoreParts.{is_in}
use Rattle.cell_region.proofs.OwnRows.{Fits, drop_fits}
use Rattle.cell_region.proofs.region.RegionBody.drop_cells.Goals as goal

pub invariant_of-self : goal.invariant_of-self
invariant_of-self c =
    let f = subst (Fits c.args.self.now.data_regions c.args.self.now.number) (sym c.drop_cells.ensures.content) (drop_fits c.args.self.now.data_regions c.args.self.now.number c.args.self.now.body (record { own = c.args.self.now.own; few = c.args.self.now.few }) c.args.row.now c.args.which.now c.requires.covered) in
    record { own = f.own; few = f.few }

pub returns-clause-covers : goal.returns-clause-covers
returns-clause-covers c = ap (λ (s : Store). is_in s.widths c.args.self.now.data_regions c.args.self.now.number) c.drop_cells.ensures.content
