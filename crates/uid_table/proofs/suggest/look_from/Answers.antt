use Rattle.std.proofs.Common.{ℕ, ◌<◌, List, [], ◌∷◌, length, inl, inr, refl, subst, arith}
use Rattle.std.specs.Prelude.{Option, Ok}
use Rattle.uid_table.specs.Suggest.{TurnsTo}
use Rattle.uid_table.proofs.Gathering.{looks_joined, looks_none}
use Rattle.uid_table.proofs.Ranks.{in_one_range, range_edges, can_go_on, nearer}
use Rattle.uid_table.proofs.suggest.look_from.Goals as goal

pub search-init : goal.search-init
search-init g c = record { search = c.requires.search; gathers = λ start x. x; made = looks_none _; grows = omega arith }

pub turn-requires-clause-range : goal.turn-requires-clause-range
turn-requires-clause-range g c = in_one_range (g.R.Rows.seen c.search.rows).base.widths c.args.prefix.now c.args.low c.args.high c.search.from c.requires.range c.search.invariant.search

pub returns-in_err-next-clause-made : goal.returns-in_err-next-clause-made
returns-in_err-next-clause-made g c = looks_joined _ _ _ c.search.invariant.made c.in_err-next.ensures.made

pub returns-in-None-clause-gathers : goal.returns-in-None-clause-gathers
returns-in-None-clause-gathers g c =
    let turns = subst (λ (o : Option (List ℕ)). TurnsTo c.args.kind c.args.prefix.now c.search.from c.args.high c.search.names.items (g.R.Rows.seen c.search.rows) (Ok o) c.turn.new.names.items (g.R.Rows.seen c.turn.new.rows)) c.in-None.is c.in_ok-next.ensures.turns in
    λ s start. (c.args.high ∷ [], turns s c.args.max (c.search.invariant.gathers s start), inl refl)

pub returns-in-None-clause-made : goal.returns-in-None-clause-made
returns-in-None-clause-made g c = looks_joined _ _ _ c.search.invariant.made c.in_ok-next.ensures.made

pub search-smaller : goal.search-smaller
search-smaller g c =
    let turns = subst (λ (o : Option (List ℕ)). TurnsTo c.args.kind c.args.prefix.now c.search.from c.args.high c.search.names.items (g.R.Rows.seen c.search.rows) (Ok o) c.turn.new.names.items (g.R.Rows.seen c.turn.new.rows)) c.in-Some.is c.in_ok-next.ensures.turns in
    nearer c.args.prefix.now c.args.low c.args.high c.search.from c.in-Some.next (range_edges c.args.low c.args.high c.requires.range).1 c.search.invariant.search turns.0

pub search-preserved : goal.search-preserved
search-preserved g c =
    let turns = subst (λ (o : Option (List ℕ)). TurnsTo c.args.kind c.args.prefix.now c.search.from c.args.high c.search.names.items (g.R.Rows.seen c.search.rows) (Ok o) c.turn.new.names.items (g.R.Rows.seen c.turn.new.rows)) c.in-Some.is c.in_ok-next.ensures.turns in
    let room : length c.search.names.items < c.args.max = let n = c.search.names.ok.0 in let e = c.len.ensures in let t = c.search-test.true in omega (arith, n, e, t) in
    record {
      search = can_go_on c.args.prefix.now c.args.low c.args.high c.search.from c.in-Some.next (range_edges c.args.low c.args.high c.requires.range).1 c.search.invariant.search turns.0;
      gathers = λ s start. turns.1 s c.args.max room (c.search.invariant.gathers s start);
      made = looks_joined _ _ _ c.search.invariant.made c.in_ok-next.ensures.made;
      grows = let a = c.search.invariant.grows in let b = c.in_ok-next.ensures.stops.grows in omega (arith, a, b);
    }

pub returns-clause-gathers : goal.returns-clause-gathers
returns-clause-gathers g c = λ s start.
    let all = c.search.invariant.gathers s start in
    (c.search.from, all, inr (let m = all.most in let n = c.search.names.ok.0 in let e = c.len.ensures in let t = c.search-test.false in omega (arith, m, n, e, t)))
