use Rattle.std.proofs.Common.{rules, sym}
use Rattle.series_groups.proofs.Members.{adds_behind, adds_first}
use Rattle.series_groups.proofs.series_groups.add.Goals as goal

pub returns-in-Some : goal.returns-in-Some
returns-in-Some c = adds_behind c.args.groups.now (c.get_mut.follows.lender c.push.new.self) c.args.key c.args.one c.push.new.self (λ q. search rules) c.in-Some.members.now (sym c.in-Some.ensures.value) c.in_ok-push.ensures.items

pub returns : goal.returns
returns c = adds_first c.args.groups.now c.insert.new.self c.args.key c.args.one c.push-2.new.self (λ q. search rules) (search rules) (search rules)
