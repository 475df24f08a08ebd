use Rattle.std.proofs.Common.{◌<◌, length, refl, arith}
use Rattle.cell_model.specs.Counts.{point_entries}
use Rattle.cell_region.specs.declared.region.TheConstants.{MOST_CELLS}
use Rattle.cell_region.proofs.Answered.{either_way, still}
use Rattle.cell_laws.specs.StoreParts.{is_in}
use Rattle.cell_region.proofs.OwnRows.{Fits, claim_fits}
use Rattle.cell_model.specs.declared.events.Step.TheVariants.{Claim}
use Rattle.cell_model.specs.Machine.{after}
use Rattle.cell_model.specs.Store.{Store}
use Rattle.cell_region.proofs.region.RegionBody.claim.Goals as goal

pub invariant_of-self : goal.invariant_of-self
invariant_of-self c =
    let room : length (point_entries c.args.self.now.body) < MOST_CELLS = omega (arith, c.if-point_cells-ge-MOST_CELLS.false, c.point_cells.ensures) in
    let old : Fits c.args.self.now.data_regions c.args.self.now.number c.args.self.now.body = (record { own = c.args.self.now.own; few = c.args.self.now.few }) in
    let f = either_way c.claim.result (Fits c.args.self.now.data_regions c.args.self.now.number) c.claim.new.self (after c.args.self.now.body 0 (Claim c.args.row.now c.args.qual.now c.args.value.now)) c.args.self.now.body c.claim.ensures.ok c.claim.ensures.err (claim_fits c.args.self.now.data_regions c.args.self.now.number c.args.self.now.body old c.args.row.now c.args.qual.now c.args.value.now c.requires.covered room) old in
    record { own = f.own; few = f.few }

pub returns-clause-covers : goal.returns-clause-covers
returns-clause-covers c = still c.claim.result (λ (s : Store). is_in s.widths c.args.self.now.data_regions c.args.self.now.number) _ _ _ c.claim.ensures.ok c.claim.ensures.err refl
