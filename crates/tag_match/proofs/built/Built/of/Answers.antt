use Rattle.std.proofs.Common.{rules, ◌≡◌, true, false, length, vec_len, subst}
use Rattle.std.specs.Prelude.{MatchOption}
use Rattle.tag_match.specs.TestPatterns.{is_bad}
use Rattle.tag_match.proofs.Places.{bad_here, all_made}
use Rattle.tag_match.proofs.built.Built.of.Goals as goal

pub returns-in_default : goal.returns-in_default
returns-in_default c =
    let items : length c.loop-filter.list.items ≡ c.len.result = search rules in
    let bad : is_bad c.filter-item.result ≡ true = subst (λ o. MatchOption o (is_bad c.filter-item.result ≡ true) (λ one. (one.filter.now ≡ c.filter-item.result) × (is_bad c.filter-item.result ≡ false))) c.in_default.is (c.in_ok-one.ensures {u = tt}) in
    bad_here (λ one. one.filter.now) c.loop-filter.list.items is_bad c.args.filters.now c.loop-filter.filter-index c.loop-filter.invariant.0 c.loop-filter.invariant.1 c.filter-item.result c.len.result c.loop-filter-test.true c.filter-item.is bad items

pub returns : goal.returns
returns c = all_made (λ one. one.filter.now) c.loop-filter.list.items is_bad c.args.filters.now c.loop-filter.filter-index c.loop-filter.invariant.0 c.loop-filter.invariant.1 c.loop-filter-test.false
