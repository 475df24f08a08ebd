use Rattle.std.proofs.Common.{ap, sym, ◌∙◌, ◌++◌}
use Rattle.qual_codec.specs.CellDots.{column_qual}
use Rattle.cell_model.specs.Store.{or_nothing, value_at}
use Rattle.cell_model.specs.Machine.{after}
use Rattle.region_locks.specs.StepOrders.{step_of}
use Rattle.region_locks.proofs.StampedSteps.{bump_is_there, bump_done, claim_is_there, claim_done, put_is_there, put_done}
use Rattle.region_locks.proofs.step_order.stamp.Goals as goal

pub stamp-requires-in-PutPoint-clause-there : goal.stamp-requires-in-PutPoint-clause-there
stamp-requires-in-PutPoint-clause-there g c =
    let a = c.requires.applied in
    put_is_there a.0 _ _ _ _ _ c.in-PutPoint.value.now (λ place. ap (λ o. after a.0 place (step_of o)) c.in-PutPoint.is) a.1

pub stamp-requires-in-PutMerged-clause-there : goal.stamp-requires-in-PutMerged-clause-there
stamp-requires-in-PutMerged-clause-there g c =
    let a = c.requires.applied in
    put_is_there a.0 _ _ _ _ _ c.in-PutMerged.value.now (λ place. ap (λ o. after a.0 place (step_of o)) c.in-PutMerged.is) a.1

pub returns-in-PutPoint-clause-content : goal.returns-in-PutPoint-clause-content
returns-in-PutPoint-clause-content g c = λ s a.
    put_done s _ _ _ _ _ _ c.in-PutPoint.value.now c.args.place c.ranges.place.fits (λ place. ap (λ o. after s place (step_of o)) c.in-PutPoint.is) a c.stamp-in-PutPoint.ensures.content

pub returns-in-PutMerged-clause-content : goal.returns-in-PutMerged-clause-content
returns-in-PutMerged-clause-content g c = λ s a.
    put_done s _ _ _ _ _ _ c.in-PutMerged.value.now c.args.place c.ranges.place.fits (λ place. ap (λ o. after s place (step_of o)) c.in-PutMerged.is) a c.stamp-in-PutMerged.ensures.content

pub stamp_column-requires-clause-there : goal.stamp_column-requires-clause-there
stamp_column-requires-clause-there g c =
    let a = c.requires.applied in
    put_is_there a.0 _ _ _ _ column_qual (or_nothing (value_at a.0 c.in-AppendPoint.row.now column_qual) ++ c.in-AppendPoint.piece.now) (λ place. ap (λ o. after a.0 place (step_of o)) c.in-AppendPoint.is) a.1

pub returns-in-AppendPoint-clause-content : goal.returns-in-AppendPoint-clause-content
returns-in-AppendPoint-clause-content g c = λ s a.
    put_done s _ _ _ _ _ column_qual (or_nothing (value_at s c.in-AppendPoint.row.now column_qual) ++ c.in-AppendPoint.piece.now) c.args.place c.ranges.place.fits (λ place. ap (λ o. after s place (step_of o)) c.in-AppendPoint.is) a c.stamp_column.ensures.content

pub stamp_counter-requires-clause-there : goal.stamp_counter-requires-clause-there
stamp_counter-requires-clause-there g c =
    let a = c.requires.applied in
    bump_is_there a.0 _ _ _ c.in-Bump.kind (ap step_of c.in-Bump.is) (sym c.gave.ensures ∙ c.if-gave.true) a.1

pub stamp-requires-clause-there : goal.stamp-requires-clause-there
stamp-requires-clause-there g c =
    let a = c.requires.applied in
    claim_is_there a.0 _ _ _ _ _ c.in-Claim.value.now (ap step_of c.in-Claim.is) (sym c.did.ensures ∙ c.if-did.true) a.1

pub returns-then-gave-clause-content : goal.returns-then-gave-clause-content
returns-then-gave-clause-content g c = λ s a.
    bump_done s _ _ _ _ c.in-Bump.kind c.args.place c.ranges.place.fits (ap step_of c.in-Bump.is) (sym c.gave.ensures ∙ c.if-gave.true) a c.stamp_counter.ensures.content

pub returns-then-did-clause-content : goal.returns-then-did-clause-content
returns-then-did-clause-content g c = λ s a.
    claim_done s _ _ _ _ _ _ c.in-Claim.value.now c.args.place c.ranges.place.fits (ap step_of c.in-Claim.is) (sym c.did.ensures ∙ c.if-did.true) a c.stamp.ensures.content
