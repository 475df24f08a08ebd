use Rattle.std.proofs.Common.{◌≡◌, false, ap, subst}
use Rattle.regex.specs.Failures.{IsRightKind}
use Rattle.regex.specs.Patterns.{default_config}
use Rattle.tag_match.specs.Patterns.{is_read}
use Rattle.tag_match.proofs.Reading.{refused}
use Rattle.tag_match.proofs.patterns.build_pattern.Goals as goal

pub returns-in-Syntax : goal.returns-in-Syntax
returns-in-Syntax c =
    let refuses = c.in-Err.ensures.by_grammar c.in-Syntax.field-0 c.in-Syntax.is in
    let kind = subst (IsRightKind default_config c.text.result.now) c.in-Syntax.is c.in-Err.ensures.kind in
    subst (λ text. is_read text ≡ false) c.text.ensures (refused c.text.result.now c.in-Syntax.field-0.kind refuses kind)
