use Rattle.std.proofs.Common.{refl, ap, ◌∙◌}
use Rattle.cell_model.specs.declared.events.Step.TheVariants.{Claim}
use Rattle.cell_model.specs.Store.{Store, value_at}
use Rattle.cell_model.specs.Machine.{claim_reply}
use Rattle.cell_laws.specs.StoreParts.{is_in}
use Rattle.cell_laws.proofs.PartLemmas.{value-part}
use Rattle.cell_region.specs.RegionLists.{store_of_all}
use Rattle.cell_region.proofs.Answered.{answers, on_ok, on_err, still}
use Rattle.cell_region.proofs.RegionSteps.{of_number, covered, part_here, still_complete, stepped, unchanged}
use Rattle.cell_region.proofs.store_regions.RegionsBody.claim.Goals as goal

pub claim-requires-clause-covered : goal.claim-requires-clause-covered
claim-requires-clause-covered c = covered c.self.inside.widths c.self.inside.data_regions c.self.inside.regions.items c.self.invariant c.number_of-number.result c.index_mut-region.result.now c.number_of-number.ensures.among c.index_mut-region.ensures.value c.args.row.now (of_number c.self.inside.widths c.self.inside.data_regions c.number_of-number.result c.args.row.now c.list.result.now c.number_of-number.ensures.number c.list.ensures)

pub invariant_of-self : goal.invariant_of-self
invariant_of-self c = still_complete c.self.inside.widths c.self.inside.data_regions c.self.inside.regions.items c.self.invariant c.number_of-number.result c.index_mut-region.result.now c.number_of-number.ensures.among c.index_mut-region.ensures.value c.claim.new.self c.claim.ensures.covers (still c.claim.result (λ (s : Store). s.widths) _ _ _ c.claim.ensures.ok c.claim.ensures.err refl)

pub returns-clause-reply : goal.returns-clause-reply
returns-clause-reply c =
    rw (← c.self.view_is)
    (answers c.claim.result (λ claimed. claimed) _ _
    (ap (λ s. claim_reply (value_at s c.args.row.now c.args.qual.now)) (part_here c.self.inside.widths c.self.inside.data_regions c.self.inside.regions.items c.self.invariant c.number_of-number.result c.index_mut-region.result.now c.number_of-number.ensures.among c.index_mut-region.ensures.value)
    ∙ ap claim_reply (value-part (is_in c.self.inside.widths c.self.inside.data_regions c.number_of-number.result) (store_of_all c.self.inside.widths c.self.inside.regions.items) c.args.row.now c.args.qual.now (of_number c.self.inside.widths c.self.inside.data_regions c.number_of-number.result c.args.row.now c.list.result.now c.number_of-number.ensures.number c.list.ensures)))
    c.claim.ensures.reply)

pub returns-clause-ok : goal.returns-clause-ok
returns-clause-ok c =
    rw (← c.self.view_is)
    (on_ok c.claim.result _ _ (stepped c.self.inside.widths c.self.inside.data_regions c.self.inside.regions.items c.self.invariant c.number_of-number.result c.index_mut-region.result.now c.number_of-number.ensures.among c.index_mut-region.ensures.value c.claim.new.self (Claim c.args.row.now c.args.qual.now c.args.value.now) (of_number c.self.inside.widths c.self.inside.data_regions c.number_of-number.result c.args.row.now c.list.result.now c.number_of-number.ensures.number c.list.ensures)) c.claim.ensures.ok)

pub returns-clause-err : goal.returns-clause-err
returns-clause-err c = rw (← c.self.view_is) (on_err c.claim.result _ _ (unchanged c.self.inside.widths c.self.inside.data_regions c.self.inside.regions.items c.self.invariant c.number_of-number.result c.index_mut-region.result.now c.number_of-number.ensures.among c.index_mut-region.ensures.value c.claim.new.self) c.claim.ensures.err)
