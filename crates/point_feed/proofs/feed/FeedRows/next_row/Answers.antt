use Rattle.std.proofs.Common.{refl}
use Rattle.cell_model.specs.declared.events.Step.TheVariants.{NextRow}
use Rattle.cell_model.specs.declared.events.Reply.TheVariants.{Next}
use Rattle.point_feed.proofs.Feeding.{passes_fed}
use Rattle.point_feed.proofs.feed.FeedRows.next_row.Goals as goal

pub invariant_of-self : goal.invariant_of-self
invariant_of-self g c =
    let e = c.next_row.ensures in
    (c.self.invariant.0, passes_fed g.J.FeedTerms.prefix g.J.FeedTerms.start _ _ (NextRow c.args.table c.args.from.now c.args.to.now) Next c.next_row.result _ _ refl e.ok e.err e.possible e.lives c.self.invariant.1)
