use Rattle.std.proofs.Common.{ap, subst, ◌∙◌}
use Rattle.compactor.specs.Queues.{AddMade, stored_as}
use Rattle.point_put.specs.StoredTexts.{stored_at}
use Rattle.queued_put.proofs.queued_text.queue_stored.Goals as goal

-- src/queued_text.rt:15:1
pub returns-in-Ok-clause-ok : goal.returns-in-Ok-clause-ok
returns-in-Ok-clause-ok g c =
    let same = ap (λ row. stored_as row c.base.result) c.row.ensures ∙ ap (λ base. stored_as (stored_at c.args.stored).row base) c.base.ensures in
    (c.in-Ok.field-0, subst (λ stored. AddMade c.args.queue.now stored c.in-Ok.field-0 c.add-added.new.self) same c.in-Ok.ensures.ok)
