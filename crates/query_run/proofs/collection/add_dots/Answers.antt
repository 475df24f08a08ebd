use Rattle.std.proofs.Common.{rules}
use Rattle.query_run.proofs.RowsTaken.{on_ok, adds_none, adds_some}
use Rattle.query_run.proofs.collection.add_dots.Goals as goal

pub returns-then-is_empty : goal.returns-then-is_empty
returns-then-is_empty c = λ spans keeps above. adds_none c.args.how c.args.spans.now c.args.pairs.now c.args.dots (search rules) spans keeps

pub returns : goal.returns
returns c = on_ok c.add.result (adds_some c.args.how c.args.spans.now c.add.new.self c.args.pairs.now c.args.dots (search rules)) c.add.ensures.ok
