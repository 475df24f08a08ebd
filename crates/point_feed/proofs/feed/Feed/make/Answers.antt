use Rattle.std.proofs.Common.{[]}
use Rattle.point_feed.proofs.Feeding.{begins_fed, same_fed}
use Rattle.point_feed.proofs.feed.Feed.make.Goals as goal

pub invariant_of-result : goal.invariant_of-result
invariant_of-result g c =
    let prefix = g.J.FeedTerms.prefix in
    let start = g.J.FeedTerms.start in
    (c.requires.prefix, same_fed prefix start _ [] c.new.result.items 0 c.new.ensures.items (begins_fed prefix start _ c.requires.start))
