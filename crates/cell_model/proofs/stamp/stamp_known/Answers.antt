use Rattle.std.proofs.Common.{◌≢◌, ℕ, None, List, sym, subst, ap, ◌∙◌}
use Rattle.cell_model.specs.Store.{content_at, stamped}
use Rattle.cell_model.proofs.stamp.stamp_known.Goals as goal

pub stamp-requires-clause-there : goal.stamp-requires-clause-there
stamp-requires-clause-there g c = subst (λ (q : List ℕ). content_at (g.B.Body.content c.args.body.now) c.args.row.now q ≢ None) (sym c.requires.is) c.requires.there

pub returns-clause-content : goal.returns-clause-content
returns-clause-content g c = c.stamp.ensures.content ∙ ap (λ (q : List ℕ). stamped (g.B.Body.content c.args.body.now) c.args.row.now q c.args.place) c.requires.is
