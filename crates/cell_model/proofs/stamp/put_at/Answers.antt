use Rattle.std.proofs.Common.{◌≢◌, None, sym, subst, ap, ◌∙◌}
use Rattle.cell_model.specs.Store.{Store, content_at, stamped}
use Rattle.cell_model.proofs.Stamps.{put_there, put_stamped}
use Rattle.cell_model.proofs.stamp.put_at.Goals as goal

pub stamp-requires-clause-there : goal.stamp-requires-clause-there
stamp-requires-clause-there g c =
    subst (λ (s : Store). content_at s c.args.row.now c.args.qual.now ≢ None) (sym c.in_ok-put.ensures.ok) (put_there (g.B.Body.content c.args.body.now) c.args.row.now c.args.qual.now c.args.value.now)

pub returns-clause-ok : goal.returns-clause-ok
returns-clause-ok g c =
    c.stamp.ensures.content ∙ ap (λ (s : Store). stamped s c.args.row.now c.args.qual.now c.args.place) c.in_ok-put.ensures.ok
    ∙ put_stamped _ c.args.row.now c.args.qual.now c.args.value.now c.args.place c.ranges.place.fits
