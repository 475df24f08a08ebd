use Rattle.std.proofs.Common.{◌∙◌, ap}
use Rattle.std.specs.Option.{option_map}
use Rattle.group_by.proofs.Wilds.{whole_fits, first_fits, same_as_filled}
use Rattle.group_by.proofs.wildcards.fits.Goals as goal

pub returns-in-None-clause-tests : goal.returns-in-None-clause-tests
returns-in-None-clause-tests c =
    c.eq.ensures ∙ whole_fits c.args.text.now c.cut.result.0.now (option_map (λ r. r.now) c.cut.result.1) c.cut.ensures.before c.cut.ensures.behind c.args.value.now (ap (option_map (λ r. r.now)) c.in-None.is)

pub returns-in-None-clause-fits : goal.returns-in-None-clause-fits
returns-in-None-clause-fits c = same_as_filled c.args.text.now c.args.value.now c.eq.result (returns-in-None-clause-tests c)

pub returns-in-Some-clause-tests : goal.returns-in-Some-clause-tests
returns-in-Some-clause-tests c =
    c.begins.ensures ∙ first_fits c.args.text.now c.cut.result.0.now (option_map (λ r. r.now) c.cut.result.1) c.cut.ensures.before c.cut.ensures.behind c.in-Some.rest.now (ap (option_map (λ r. r.now)) c.in-Some.is) c.args.value.now

pub returns-in-Some-clause-fits : goal.returns-in-Some-clause-fits
returns-in-Some-clause-fits c = same_as_filled c.args.text.now c.args.value.now c.begins.result (returns-in-Some-clause-tests c)
