use Rattle.std.proofs.Common.{ap, ◌∙◌, ◌+◌, refl, arith}
use Rattle.std.specs.Prelude.{nat_lt, cond}
use Rattle.cell_model.specs.declared.events.Step.TheVariants.{Bump}
use Rattle.cell_model.specs.declared.answers.Bumped.TheVariants.{Given, Full}
use Rattle.cell_model.specs.Machine.{bump_reply, counter_row, greatest}
use Rattle.cell_laws.specs.StoreParts.{is_in}
use Rattle.cell_laws.proofs.PartLemmas.{counter-part}
use Rattle.cell_region.specs.RegionLists.{store_of_all}
use Rattle.cell_region.proofs.RegionSteps.{covered, part_here, still_complete, stepped}
use Rattle.cell_model.specs.Store.{Store}
use Rattle.cell_region.proofs.store_regions.RegionsBody.bump.Goals as goal

pub bump-requires : goal.bump-requires
bump-requires c = record { covered = covered c.self.inside.widths c.self.inside.data_regions c.self.inside.regions.items c.self.invariant 0 c.index_mut-counters.result.now (omega arith) c.index_mut-counters.ensures.value counter_row refl }

pub invariant_of-self : goal.invariant_of-self
invariant_of-self c = still_complete c.self.inside.widths c.self.inside.data_regions c.self.inside.regions.items c.self.invariant 0 c.index_mut-counters.result.now (omega arith) c.index_mut-counters.ensures.value c.bump.new.self c.bump.ensures.covers (ap (λ (s : Store). s.widths) c.bump.ensures.content)

pub returns-clause-reply : goal.returns-clause-reply
returns-clause-reply c =
    rw (← c.self.view_is)
    (c.bump.ensures.reply ∙ ap (λ s. bump_reply s c.args.kind) (part_here c.self.inside.widths c.self.inside.data_regions c.self.inside.regions.items c.self.invariant 0 c.index_mut-counters.result.now (omega arith) c.index_mut-counters.ensures.value)
    ∙ ap (λ n. cond (nat_lt n (greatest c.self.inside.widths c.args.kind)) (Given (n + 1)) Full) (counter-part (is_in c.self.inside.widths c.self.inside.data_regions 0) (store_of_all c.self.inside.widths c.self.inside.regions.items) c.args.kind refl))

pub returns-clause-content : goal.returns-clause-content
returns-clause-content c = rw (← c.self.view_is) (stepped c.self.inside.widths c.self.inside.data_regions c.self.inside.regions.items c.self.invariant 0 c.index_mut-counters.result.now (omega arith) c.index_mut-counters.ensures.value c.bump.new.self (Bump c.args.kind) refl c.bump.ensures.content)
