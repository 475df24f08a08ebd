use Rattle.std.proofs.Common.{rules, sym, arith}
use Rattle.series_meta.proofs.CountAdds.{adds_behind, adds_first}
use Rattle.series_meta.proofs.series_counts.add_count.Goals as goal

pub returns-in-Some : goal.returns-in-Some
returns-in-Some c =
    let more = c.in-Some-checked_add.ensures.1 in
    adds_behind c.args.counts.now (c.get_mut.follows.lender c.in-Some-checked_add.more) c.args.ids c.args.count c.in-Some-checked_add.more (λ q. search rules) c.in-Some.sum.now (sym c.in-Some.ensures.value) (omega (arith, more))

pub returns : goal.returns
returns c = adds_first c.args.counts.now c.insert.new.self c.args.ids c.args.count (λ q. search rules) (search rules)
