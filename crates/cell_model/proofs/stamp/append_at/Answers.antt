use Rattle.std.proofs.Common.{◌≢◌, None, sym, subst, ap, ◌∙◌}
use Rattle.qual_codec.specs.CellDots.{column_qual}
use Rattle.cell_model.specs.Store.{Store, content_at, stamped}
use Rattle.cell_model.proofs.Stamps.{append_there, append_stamped}
use Rattle.cell_model.proofs.stamp.append_at.Goals as goal

pub stamp_known-requires-clause-there : goal.stamp_known-requires-clause-there
stamp_known-requires-clause-there g c =
    subst (λ (s : Store). content_at s c.args.row.now column_qual ≢ None) (sym c.in_ok-append.ensures.ok) (append_there (g.B.Body.content c.args.body.now) c.args.row.now c.args.piece.now)

pub returns-clause-ok : goal.returns-clause-ok
returns-clause-ok g c =
    c.stamp_known.ensures.content ∙ ap (λ (s : Store). stamped s c.args.row.now column_qual c.args.place) c.in_ok-append.ensures.ok
    ∙ append_stamped _ c.args.row.now c.args.piece.now c.args.place c.ranges.place.fits
