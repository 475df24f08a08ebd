use Rattle.std.proofs.Common.{rules, ◌≤◌}
use Rattle.step_count.specs.CounterRule.{region_count}
use Rattle.region_locks.proofs.UnopenedRegions.{none_to_come}
use Rattle.region_locks.proofs.region_lock.Held.next.Goals as goal

pub returns-else-data_regions : goal.returns-else-data_regions
returns-else-data_regions g c =
    let le : region_count g.J.StepNames.name ≤ g.row.N = search rules in
    none_to_come g.J.StepNames.counter g.J.StepNames.name g.row.N c.args.regions.now c.args.regions.now c.args.licences.now c.args.licences.now le c.requires.unopened
