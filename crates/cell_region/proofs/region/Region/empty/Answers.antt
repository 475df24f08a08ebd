use Rattle.std.proofs.Common.{subst, sym}
use Rattle.cell_region.proofs.OwnRows.{Fits, none_fit}
use Rattle.cell_region.proofs.region.Region.empty.Goals as goal

pub invariant_of-result : goal.invariant_of-result
invariant_of-result c = let f = subst (Fits c.args.data_regions c.args.number) (sym c.make.ensures) (none_fit c.args.data_regions c.args.number c.args.widths) in record { own = f.own; few = f.few }
