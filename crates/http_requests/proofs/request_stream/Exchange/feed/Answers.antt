use Rattle.http_requests.proofs.RequestLemmas.{kept_more}
use Rattle.http_requests.proofs.request_stream.Exchange.feed.Goals as goal

pub invariant_of-self-2 : goal.invariant_of-self-2
invariant_of-self-2 c =
    kept_more c.self.inside.buffer c.feed.new.self c.args.piece.now c.self.inside.at c.self.inside.begun c.self.inside.waiting c.in_ok-feed.ensures.ok c.self.invariant
