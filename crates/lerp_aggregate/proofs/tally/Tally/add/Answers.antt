use Rattle.std.proofs.Common.{FitsSigned, w64, rules, arith}
use Rattle.std.specs.Int.{w128}
use Rattle.std.proofs.lemmas.Int.{ints}
use Rattle.lerp_aggregate.proofs.Tallying.{sum_fits, counts_added}
use Rattle.lerp_aggregate.proofs.tally.Tally.add.Goals as goal

pub overflow_add-self : goal.overflow_add-self
overflow_add-self c =
    let fit = sum_fits c.args.self.now c.args.value c.requires.room c.ranges.value in
    let wide = c.from.ensures in
    let sum : FitsSigned w128 c.args.self.now.sum = search rules in
    omega (arith, ints)

pub returns : goal.returns
returns c =
    let old = c.args.self.now in
    let sum : FitsSigned w128 old.sum = search rules in
    let least : FitsSigned w64 old.least = search rules in
    let greatest : FitsSigned w64 old.greatest = search rules in
    let low : FitsSigned w64 c.min-self.result = search rules in
    let high : FitsSigned w64 c.max-self.result = search rules in
    record {
      adds = record { adds = λ values h. counts_added old values c.args.value c.min-self.result c.max-self.result c.from.result h c.requires.room c.ranges.value least greatest low high sum c.min-self.ensures.value c.max-self.ensures.value c.from.ensures };
    }
