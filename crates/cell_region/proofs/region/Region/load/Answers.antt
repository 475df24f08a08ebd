use Rattle.std.proofs.Common.{◌<◌, length, refl, arith}
use Rattle.cell_model.specs.declared.row.Row.{Row}
use Rattle.cell_model.specs.Store.{Store, written}
use Rattle.cell_model.specs.Counts.{point_entries}
use Rattle.cell_region.specs.declared.region.TheConstants.{MOST_CELLS}
use Rattle.cell_region.proofs.Answered.{either_way, still}
use Rattle.cell_laws.specs.StoreParts.{is_in}
use Rattle.cell_region.proofs.OwnRows.{Fits, put_fits}
use Rattle.cell_region.proofs.region.Region.load.Goals as goal

pub invariant_of-self : goal.invariant_of-self
invariant_of-self c =
    let room : length (point_entries c.args.self.now.body) < MOST_CELLS = omega (arith, c.if-point_cells-ge-MOST_CELLS.false, c.point_cells.ensures) in
    let row : Row = record { table = c.args.line.now.table; bytes = c.args.line.now.row } in
    let old : Fits c.args.self.now.data_regions c.args.self.now.number c.args.self.now.body = (record { own = c.args.self.now.own; few = c.args.self.now.few }) in
    let f = either_way c.load.result (Fits c.args.self.now.data_regions c.args.self.now.number) c.load.new.self (written c.args.self.now.body row c.args.line.now.qual c.args.line.now.value 0) c.args.self.now.body c.load.ensures.ok c.load.ensures.err (put_fits c.args.self.now.data_regions c.args.self.now.number c.args.self.now.body old row c.args.line.now.qual c.args.line.now.value c.requires.covered room) old in
    record { own = f.own; few = f.few }

pub returns-clause-rows : goal.returns-clause-rows
returns-clause-rows c = still c.load.result (λ (s : Store). is_in s.widths c.args.self.now.data_regions c.args.self.now.number) _ _ _ c.load.ensures.ok c.load.ensures.err refl
