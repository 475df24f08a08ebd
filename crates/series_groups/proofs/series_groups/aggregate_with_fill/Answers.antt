use Rattle.std.proofs.Common.{List, ℕ, ℤ, sym, subst}
use Rattle.lerp_aggregate.specs.Aggregation.{GivesAggregate, aggregated}
use Rattle.series_groups.proofs.Filling.{fills_none, fills_nothing, fills_zeros, zeros_on}
use Rattle.series_groups.proofs.series_groups.aggregate_with_fill.Goals as goal

pub returns-in-NoFill : goal.returns-in-NoFill
returns-in-NoFill c =
    let q = c.args.query.now in
    subst (λ (lists : List (List (ℕ × ℤ))). GivesAggregate c.aggregate.result (aggregated c.args.how lists)) (sym (fills_nothing c.args.down q.start q.end c.args.lists.now c.in-Some.down c.in-Some.is c.in-NoFill.is)) c.aggregate.ensures

pub aggregate_in-requires-clause-on : goal.aggregate_in-requires-clause-on
aggregate_in-requires-clause-on c =
    let q = c.args.query.now in
    zeros_on c.args.down q.start q.end c.args.lists.now c.in-Some.down c.in-Some.is c.in-Zero.is c.requires.on

pub returns-in-Zero : goal.returns-in-Zero
returns-in-Zero c =
    let q = c.args.query.now in
    subst (λ (lists : List (List (ℕ × ℤ))). GivesAggregate c.aggregate_in.result (aggregated c.args.how lists)) (sym (fills_zeros c.args.down q.start q.end c.args.lists.now c.in-Some.down c.in-Some.is c.in-Zero.is)) c.aggregate_in.ensures

pub returns-in-None : goal.returns-in-None
returns-in-None c =
    let q = c.args.query.now in
    subst (λ (lists : List (List (ℕ × ℤ))). GivesAggregate c.aggregate-in-None.result (aggregated c.args.how lists)) (sym (fills_none c.args.down q.start q.end c.args.lists.now c.in-None.is)) c.aggregate-in-None.ensures
