use Rattle.std.proofs.Common.{refl}
use Rattle.cell_model.specs.declared.events.Step.TheVariants.{PutMerged}
use Rattle.cell_model.specs.declared.events.Reply.TheVariants.{Written}
use Rattle.point_feed.proofs.Feeding.{passes_fed}
use Rattle.point_feed.proofs.feed.FeedRows.put_merged.Goals as goal

pub invariant_of-self : goal.invariant_of-self
invariant_of-self g c =
    let e = c.put_merged.ensures in
    (c.self.invariant.0, passes_fed g.J.FeedTerms.prefix g.J.FeedTerms.start _ _ (PutMerged c.args.row.now c.args.qual.now c.args.value.now) (λ x. Written) c.put_merged.result _ _ refl e.ok e.err e.possible e.lives c.self.invariant.1)
