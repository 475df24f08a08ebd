use Rattle.std.proofs.Common.{refl}
use Rattle.cell_model.specs.declared.events.Step.TheVariants.{Claim}
use Rattle.cell_model.specs.declared.events.Reply.TheVariants.{ClaimReply}
use Rattle.point_feed.proofs.Feeding.{passes_fed}
use Rattle.point_feed.proofs.feed.FeedRows.claim.Goals as goal

pub invariant_of-self : goal.invariant_of-self
invariant_of-self g c =
    let e = c.claim.ensures in
    (c.self.invariant.0, passes_fed g.J.FeedTerms.prefix g.J.FeedTerms.start _ _ (Claim c.args.row.now c.args.qual.now c.args.value.now) ClaimReply c.claim.result _ _ refl e.ok e.err e.possible e.lives c.self.invariant.1)
