use Rattle.std.proofs.Common.{ℕ, ◌<◌, List, length, subst, arith}
use Rattle.std.specs.Prelude.{Option}
use Rattle.uid_table.specs.Suggest.{StartsAt}
use Rattle.uid_table.proofs.Gathering.{looks_none}
use Rattle.uid_table.proofs.Ranks.{range_edges}
use Rattle.uid_table.proofs.Searches.{on_ok, skip_range, from_start}
use Rattle.uid_table.proofs.suggest.look_through.Goals as goal

pub returns-then-len-max-clause-made : goal.returns-then-len-max-clause-made
returns-then-len-max-clause-made g c = looks_none _

pub returns-in-Some-clause-gathers : goal.returns-in-Some-clause-gathers
returns-in-Some-clause-gathers g c =
    let starts = subst (λ (o : Option (List ℕ)). StartsAt c.args.prefix.now c.args.low c.args.high o) c.in-Some.is c.in_ok-start.ensures in
    let room : length c.args.names.now.items < c.args.max = let n = c.args.names.now.ok.0 in let e = c.len.ensures in let t = c.if-len-max.false in omega (arith, n, e, t) in
    on_ok c.look_from.result c.look_from.ensures.gathers (λ go. from_start c.args.kind c.args.prefix.now c.args.max c.args.low c.args.high c.in-Some.start _ _ _ _ room starts.0 starts.1 go)

pub returns-in-None-clause-gathers : goal.returns-in-None-clause-gathers
returns-in-None-clause-gathers g c =
    let skips = subst (λ (o : Option (List ℕ)). StartsAt c.args.prefix.now c.args.low c.args.high o) c.in-None.is c.in_ok-start.ensures in
    skip_range c.args.kind c.args.prefix.now c.args.max c.args.low c.args.high _ _ (range_edges c.args.low c.args.high c.requires).1 skips

pub returns-in-None-clause-made : goal.returns-in-None-clause-made
returns-in-None-clause-made g c = looks_none _

pub returns-in_err-start-clause-made : goal.returns-in_err-start-clause-made
returns-in_err-start-clause-made g c = looks_none _
