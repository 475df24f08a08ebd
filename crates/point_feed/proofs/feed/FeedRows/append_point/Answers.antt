use Rattle.std.proofs.Common.{refl, subst, ℕ, List}
use Rattle.tsd_base.specs.Points.{data_point}
use Rattle.cell_model.specs.declared.events.Step.TheVariants.{AppendPoint}
use Rattle.cell_model.specs.declared.events.Reply.TheVariants.{Written}
use Rattle.cell_laws.proofs.CallerLemmas.{nothing_waited}
use Rattle.point_feed.specs.KeptLines.{IsLineUnder}
use Rattle.point_feed.proofs.Feeding.{few_fed, puts_fed, same_fed, some_line}
use Rattle.point_feed.proofs.feed.FeedRows.append_point.Goals as goal

pub returns-in_default-clause-err : goal.returns-in_default-clause-err
returns-in_default-clause-err g c = rw (← c.self.view_is) (nothing_waited _)

pub keep_made-requires-clause-some : goal.keep_made-requires-clause-some
keep_made-requires-clause-some g c = some_line (g.G.SelectsPoints.prefix c.self.inside.rule) (data_point c.args.point.now) c.in-Ok.line c.in-Ok.ensures.line

pub keep_made-requires-clause-few : goal.keep_made-requires-clause-few
keep_made-requires-clause-few g c =
    let prefix = g.J.FeedTerms.prefix in
    let start = g.J.FeedTerms.start in
    few_fed prefix start _ c.line_for.new.text.items c.self.inside.count (same_fed prefix start _ c.self.inside.text.items c.line_for.new.text.items c.self.inside.count c.line_for.ensures.kept c.self.invariant.1)

pub invariant_of-self-2 : goal.invariant_of-self-2
invariant_of-self-2 g c =
    let prefix = g.J.FeedTerms.prefix in
    let start = g.J.FeedTerms.start in
    let point = data_point c.args.point.now in
    let e = c.append_point-made.ensures in
    let k = c.keep_made.ensures in (
      c.self.invariant.0,
      puts_fed prefix start _ _ point (AppendPoint point c.args.row.now c.args.piece.now) refl c.append_point-made.result Written c.in-Ok.line c.line_for.new.text.items _ c.self.inside.count _ (subst (λ (q : List ℕ). IsLineUnder q point c.in-Ok.line) c.self.invariant.0 c.in-Ok.ensures.line) k.text k.count k.text_stays k.count_stays
          e.ok e.err e.possible e.lives (same_fed prefix start _ c.self.inside.text.items c.line_for.new.text.items c.self.inside.count c.line_for.ensures.kept c.self.invariant.1),
    )

pub returns-clause-lives : goal.returns-clause-lives
returns-clause-lives g c = rw (← c.self.view_is) c.append_point-made.ensures.lives
