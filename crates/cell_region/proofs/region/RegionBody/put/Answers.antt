use Rattle.std.proofs.Common.{◌<◌, length, refl, arith}
use Rattle.cell_model.specs.Store.{Store, written}
use Rattle.cell_model.specs.Counts.{point_entries}
use Rattle.cell_region.specs.declared.region.TheConstants.{MOST_CELLS}
use Rattle.cell_region.proofs.Answered.{either_way, still}
use Rattle.cell_laws.specs.StoreParts.{is_in}
use Rattle.cell_region.proofs.OwnRows.{Fits, put_fits}
use Rattle.cell_region.proofs.region.RegionBody.put.Goals as goal

pub invariant_of-self : goal.invariant_of-self
invariant_of-self c =
    let room : length (point_entries c.args.self.now.body) < MOST_CELLS = omega (arith, c.if-point_cells-ge-MOST_CELLS.false, c.point_cells.ensures) in
    let old : Fits c.args.self.now.data_regions c.args.self.now.number c.args.self.now.body = (record { own = c.args.self.now.own; few = c.args.self.now.few }) in
    let f = either_way c.put.result (Fits c.args.self.now.data_regions c.args.self.now.number) c.put.new.self (written c.args.self.now.body c.args.row.now c.args.qual.now c.args.value.now 0) c.args.self.now.body c.put.ensures.ok c.put.ensures.err (put_fits c.args.self.now.data_regions c.args.self.now.number c.args.self.now.body old c.args.row.now c.args.qual.now c.args.value.now c.requires.covered room) old in
    record { own = f.own; few = f.few }

pub returns-clause-covers : goal.returns-clause-covers
returns-clause-covers c = still c.put.result (λ (s : Store). is_in s.widths c.args.self.now.data_regions c.args.self.now.number) _ _ _ c.put.ensures.ok c.put.ensures.err refl
