use Rattle.std.proofs.Common.{◌≢◌, None, sym, subst, ap, ◌∙◌}
use Rattle.cell_model.specs.Store.{Store, content_at, stamped}
use Rattle.cell_model.specs.Machine.{counter_row, kind_qual}
use Rattle.cell_model.proofs.Stamps.{bump_there, bump_stamped}
use Rattle.cell_model.proofs.stamp.bump_at.Goals as goal

pub stamp_counter-requires-clause-there : goal.stamp_counter-requires-clause-there
stamp_counter-requires-clause-there g c =
    subst (λ (s : Store). content_at s counter_row (kind_qual c.args.kind) ≢ None) (sym c.in-Given.ensures.content) (bump_there _ c.args.kind c.in-Given.id (sym c.in-Given.ensures.reply))

pub returns-in-Given-clause-content : goal.returns-in-Given-clause-content
returns-in-Given-clause-content g c =
    c.stamp_counter.ensures.content ∙ ap (λ (s : Store). stamped s counter_row (kind_qual c.args.kind) c.args.place) c.in-Given.ensures.content
    ∙ bump_stamped _ c.args.kind c.args.place c.in-Given.id c.ranges.place.fits (sym c.in-Given.ensures.reply)
