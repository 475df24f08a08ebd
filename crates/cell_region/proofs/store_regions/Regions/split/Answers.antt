use Rattle.cell_region.proofs.RegionSteps.{have_parts}
use Rattle.cell_region.proofs.store_regions.Regions.split.Goals as goal

pub returns-clause-parts : goal.returns-clause-parts
returns-clause-parts c = rw (← c.self.view_is) (have_parts c.self.inside.widths c.self.inside.data_regions c.self.inside.regions.items c.self.invariant)
