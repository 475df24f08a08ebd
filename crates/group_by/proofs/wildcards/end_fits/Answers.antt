use Rattle.std.proofs.Common.{◌∙◌, sym, ap}
use Rattle.std.specs.Option.{option_map}
use Rattle.group_by.specs.Wildcards.{some_end, fits, passes_behind}
use Rattle.group_by.proofs.Wilds.{ends_last, ends_more}
use Rattle.group_by.proofs.wildcards.end_fits.Goals as goal

pub returns-in_default : goal.returns-in_default
returns-in_default c =
    ends_last c.args.text.now c.args.value.now c.loop-more.wild.now c.loop-more.end.now c.loop-more.invariant c.cut.result.0.now (option_map (λ r. r.now) c.cut.result.1) c.cut.ensures.before c.cut.ensures.behind c.ends_with.result
    (ap (option_map (λ r. r.now)) c.in_default.is) c.ends_with.ensures.value

pub returns-in_default-behind_first : goal.returns-in_default-behind_first
returns-in_default-behind_first c =
    sym (ends_more c.args.text.now c.args.value.now c.loop-more.wild.now c.loop-more.end.now c.loop-more.invariant c.cut.result.0.now (option_map (λ r. r.now) c.cut.result.1) c.cut.ensures.before c.cut.ensures.behind c.in-Some.more.now (option_map (λ r. r.now) c.behind_first.result)
    (ap (option_map (λ r. r.now)) c.in-Some.is) c.behind_first.ensures ∙ ap (λ o. passes_behind (some_end (fits c.in-Some.more.now)) (option_map (λ r. r.now) o)) c.in_default-behind_first.is)

pub loop-more-preserved : goal.loop-more-preserved
loop-more-preserved c =
    ends_more c.args.text.now c.args.value.now c.loop-more.wild.now c.loop-more.end.now c.loop-more.invariant c.cut.result.0.now (option_map (λ r. r.now) c.cut.result.1) c.cut.ensures.before c.cut.ensures.behind c.in-Some.more.now (option_map (λ r. r.now) c.behind_first.result)
    (ap (option_map (λ r. r.now)) c.in-Some.is) c.behind_first.ensures ∙ ap (λ o. passes_behind (some_end (fits c.in-Some.more.now)) (option_map (λ r. r.now) o)) c.in-Some-behind_first.is
