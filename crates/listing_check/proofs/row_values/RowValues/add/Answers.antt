use Rattle.std.proofs.Common.{rules, sym, ◌∙◌, refl}
use Rattle.listing_check.proofs.OffsetTurns.{first_added, other_added, same_added, several_added}
use Rattle.listing_check.proofs.row_values.RowValues.add.Goals as goal

pub returns-then-value-dot : goal.returns-then-value-dot
returns-then-value-dot c = λ dots k. same_added dots c.args.dot.now c.args.self.now c.args.self.now k c.in-Some-One.value (search rules) (search rules) refl

pub returns-in_ok-put-in-None : goal.returns-in_ok-put-in-None
returns-in_ok-put-in-None c = λ dots k. first_added dots c.args.dot.now c.args.self.now c.put.new.self k (sym c.at.ensures ∙ c.in-None.is) (search rules)

pub returns-in_ok-put-in-Some-One : goal.returns-in_ok-put-in-Some-One
returns-in_ok-put-in-Some-One c = λ dots k. other_added dots c.args.dot.now c.args.self.now c.put-in-Some-One.new.self k c.in-Some-One.value (search rules) (search rules) (search rules)

pub returns-in-Some-Several : goal.returns-in-Some-Several
returns-in-Some-Several c = λ dots k. several_added dots c.args.dot.now c.args.self.now c.args.self.now k (search rules) refl
