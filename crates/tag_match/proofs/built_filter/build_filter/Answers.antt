use Rattle.std.proofs.Common.{◌≡◌, false, subst}
use Rattle.std.specs.Prelude.{MatchOption}
use Rattle.regex.specs.Strings.{regex_pattern}
use Rattle.tag_match.specs.Patterns.{is_read, IsRegexOf}
use Rattle.tag_match.proofs.Reading.{judges_of, plain_of}
use Rattle.tag_match.proofs.built_filter.build_filter.Goals as goal

pub invariant_of-result-in-Some-2 : goal.invariant_of-result-in-Some-2
invariant_of-result-in-Some-2 c =
    let of = subst (λ o. MatchOption o (is_read c.in-Some.text.now ≡ false) (IsRegexOf c.in-Some.text.now)) c.in-Some-2.is (c.in_ok-regex.ensures {u = tt}) in
    record { judges = judges_of c.in-Some.text.now c.in-Some-2.regex of c.args.filter.now.test c.in-Some.ensures; plain = plain_of (regex_pattern c.in-Some-2.regex) c.args.filter.now.test }
