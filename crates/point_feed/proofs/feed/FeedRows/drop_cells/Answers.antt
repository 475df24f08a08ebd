use Rattle.std.proofs.Common.{refl}
use Rattle.cell_model.specs.declared.events.Step.TheVariants.{DropCells}
use Rattle.cell_model.specs.declared.events.Reply.TheVariants.{Removed}
use Rattle.point_feed.proofs.Feeding.{passes_fed}
use Rattle.point_feed.proofs.feed.FeedRows.drop_cells.Goals as goal

pub invariant_of-self : goal.invariant_of-self
invariant_of-self g c =
    let e = c.drop_cells.ensures in
    (c.self.invariant.0, passes_fed g.J.FeedTerms.prefix g.J.FeedTerms.start _ _ (DropCells c.args.row c.args.which) Removed c.drop_cells.result _ _ refl e.ok e.err e.possible e.lives c.self.invariant.1)
