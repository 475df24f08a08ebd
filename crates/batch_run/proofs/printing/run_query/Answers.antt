use Rattle.std.specs.Prelude.{Some}
use Rattle.batch_run.proofs.RunLemmas.{no_memory}
use Rattle.batch_run.proofs.printing.run_query.Goals as goal

pub returns-in_default-clause-works : goal.returns-in_default-clause-works
returns-in_default-clause-works g c = λ batch q.
    let s = g.S.Source in
    no_memory (s.taken c.args.input.now) (s.left c.args.input.now) (Some batch)
