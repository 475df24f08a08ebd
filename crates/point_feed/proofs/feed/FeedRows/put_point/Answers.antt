use Rattle.std.proofs.Common.{refl, subst, ℕ, List}
use Rattle.tsd_base.specs.Points.{data_point}
use Rattle.cell_model.specs.declared.events.Step.TheVariants.{PutPoint}
use Rattle.cell_model.specs.declared.events.Reply.TheVariants.{Written}
use Rattle.point_feed.specs.KeptLines.{IsLineUnder}
use Rattle.point_feed.proofs.Feeding.{few_fed, puts_fed, same_fed}
use Rattle.point_feed.proofs.feed.FeedRows.put_point.Goals as goal

pub keep_made-requires-clause-few : goal.keep_made-requires-clause-few
keep_made-requires-clause-few g c =
    let prefix = g.J.FeedTerms.prefix in
    let start = g.J.FeedTerms.start in
    few_fed prefix start _ c.line_for.new.text.items c.self.inside.count (same_fed prefix start _ c.self.inside.text.items c.line_for.new.text.items c.self.inside.count c.line_for.ensures.kept c.self.invariant.1)

pub invariant_of-self-2 : goal.invariant_of-self-2
invariant_of-self-2 g c =
    let prefix = g.J.FeedTerms.prefix in
    let start = g.J.FeedTerms.start in
    let point = data_point c.args.point.now in
    let e = c.put_point-made.ensures in
    let k = c.keep_made.ensures in (
      c.self.invariant.0,
      puts_fed prefix start _ _ point (PutPoint point c.args.row.now c.args.qual.now c.args.value.now) refl c.put_point-made.result Written c.in-Ok.line c.line_for.new.text.items _ c.self.inside.count _ (subst (λ (q : List ℕ). IsLineUnder q point c.in-Ok.line) c.self.invariant.0 c.in-Ok.ensures.line) k.text k.count k.text_stays k.count_stays
          e.ok e.err e.possible e.lives (same_fed prefix start _ c.self.inside.text.items c.line_for.new.text.items c.self.inside.count c.line_for.ensures.kept c.self.invariant.1),
    )

pub returns-clause-lives : goal.returns-clause-lives
returns-clause-lives g c = rw (← c.self.view_is) c.put_point-made.ensures.lives
