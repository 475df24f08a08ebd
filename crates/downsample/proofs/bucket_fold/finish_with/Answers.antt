use Rattle.downsample.proofs.Opening.{told_large, told_closed}
use Rattle.downsample.proofs.bucket_fold.finish_with.Goals as goal

pub returns-in-Some : goal.returns-in-Some
returns-in-Some c = told_large c.args.function c.args.latest.now c.args.closed c.close.new.closed c.args.large c.close.new.large c.in-Some.time c.in-Some.is c.in_ok-close.ensures.closes

pub returns-in-None : goal.returns-in-None
returns-in-None c = told_closed c.args.function c.args.latest.now c.args.closed c.close.new.closed c.args.large c.close.new.large c.in-None.is c.in_ok-close.ensures.closes
