use Rattle.std.proofs.Common.{◌∙◌, w64}
use Rattle.std.proofs.lemmas.Int.{to_z-of_z}
use Rattle.lerp_aggregate.proofs.Quotients.{averaged}
use Rattle.lerp_aggregate.proofs.Tallying.{sum_within}
use Rattle.lerp_aggregate.proofs.tally.Tally.average.Goals as goal

pub overflow_cast-result-in-Err : goal.overflow_cast-result-in-Err
overflow_cast-result-in-Err c =
    let tally = c.args.self.now in
    let within = sum_within tally 0 c.requires.room in
    (averaged tally.sum c.from.result tally.count c.requires.some within.1 within.0.0 within.0.1 c.from.ensures).0

pub returns-in-Err : goal.returns-in-Err
returns-in-Err c =
    let tally = c.args.self.now in
    let within = sum_within tally 0 c.requires.room in
    let both = averaged tally.sum c.from.result tally.count c.requires.some within.1 within.0.0 within.0.1 c.from.ensures in
    to_z-of_z w64 _ both.0 ∙ both.1
