use Rattle.test_rows.proofs.Holding.{holds_noted}
use Rattle.test_rows.proofs.fact.note.Goals as goal

pub returns : goal.returns
returns c = λ s all one. holds_noted s c.args.facts.now.items c.push.new.self.items c.args.fact _ c.push.ensures.items all one
