use Rattle.std.proofs.Common.{◌∙◌, ap, is_some}
use Rattle.regex.specs.Patterns.{find_str}
use Rattle.regex.specs.Strings.{matcher_pattern}
use Rattle.tag_match.specs.TestPatterns.{sought_by}
use Rattle.tag_match.proofs.judge.passes.Goals as goal

pub returns-in-Some-clause-passes : goal.returns-in-Some-clause-passes
returns-in-Some-clause-passes c =
    c.is_match.ensures.found ∙ ap (λ v. is_some (find_str (matcher_pattern c.in-Some.matcher) v 0)) c.name_text.ensures.text
    ∙ c.requires.judges (matcher_pattern c.in-Some.matcher) (ap sought_by c.in-Some.is) c.args.value.now c.name_text.ensures.bytes
