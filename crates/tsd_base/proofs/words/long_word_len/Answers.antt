use Rattle.std.proofs.Common.{sym, ap, ◌∙◌, arith}
use lib.Count.{count_trailing_zeros}
use Rattle.tsd_base.specs.Words.{is_space}
use Rattle.tsd_base.proofs.Groups.{behind_group, in_group}
use Rattle.tsd_base.proofs.Parts.{position_within}
use Rattle.tsd_base.proofs.words.long_word_len.Goals as goal

pub returns-then-spaces-ne0-clause-place : goal.returns-then-spaces-ne0-clause-place
returns-then-spaces-ne0-clause-place c =
    let spaces = c.spaces_of-spaces in
    let found = in_group is_space c.args.text.now c.loop-at.at 16 (omega arith) (omega arith) (omega (arith, spaces.ensures)) ∙ ap (count_trailing_zeros 64) (sym spaces.ensures) in
    omega (arith, found, c.loop-at.invariant.passed)

pub loop-at-preserved : goal.loop-at-preserved
loop-at-preserved c =
    let more = behind_group is_space c.args.text.now c.loop-at.at 16 (omega arith) (omega (arith, c.spaces_of-spaces.ensures)) in
    record { passed = omega (arith, more, c.loop-at.invariant.passed); within = omega arith }

pub returns-then-spaces-ne0-clause-bound : goal.returns-then-spaces-ne0-clause-bound
returns-then-spaces-ne0-clause-bound c = omega (arith, returns-then-spaces-ne0-clause-place c, position_within is_space c.args.text.now)
