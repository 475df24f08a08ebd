use Rattle.std.proofs.Common.{◌≡◌, ◌∷◌, ◌++◌, [], ℤ, FitsSigned, rules, subst, sym, w64}
use Rattle.std.specs.Prelude.{OnOk}
use Rattle.std.proofs.lemmas.Int.{to_z-of_z}
use Rattle.batch_job.proofs.HeldSeries.{pushed_there, texts_there, unpushed_there}
use Rattle.batch_job.proofs.pending.push_at.Goals as goal

pub returns-clause-adds : goal.returns-clause-adds
returns-clause-adds c =
    let fits : FitsSigned w64 c.args.value = search rules in
    pushed_there c.args.all.now c.in-Some.ensures.unique c.args.at c.args.series.now c.in-Some.pending.now c.push.new.self (c.args.time, c.args.value) c.push.result c.requires.at (sym c.in-Some.ensures.value)
    (subst (λ (v : ℤ). OnOk c.push.result (c.push.new.self.values ≡ c.in-Some.pending.now.values ++ (c.args.time, v) ∷ [])) (to_z-of_z w64 c.args.value fits) c.push.ensures.values)

pub returns-clause-kept : goal.returns-clause-kept
returns-clause-kept c = λ keep.
    texts_there c.args.all.now.entries c.args.at c.args.series.now c.in-Some.pending.now c.push.new.self c.args.known c.push.result c.requires.at (sym c.in-Some.ensures.value) c.push.ensures.text c.push.ensures.err c.requires.known keep

pub returns-clause-err : goal.returns-clause-err
returns-clause-err c = unpushed_there c.args.all.now.entries c.args.at c.in-Some.pending.now c.push.new.self c.push.result (sym c.in-Some.ensures.value) c.push.ensures.err
