use Rattle.std.proofs.Common.{◌∙◌, ap, sym, rules, FitsSigned, w64}
use Rattle.std.proofs.lemmas.Int.{to_z-of_z}
use Rattle.jiff_core.specs.DateTime.{civil_seconds}
use Rattle.query_requests.specs.CivilDates.{milli_of}
use Rattle.query_requests.proofs.DateLemmas.{no_moment, a_moment}
use Rattle.query_requests.proofs.civil_dates.civil_time.Goals as goal

pub returns-in_err-moment-clause-time : goal.returns-in_err-moment-clause-time
returns-in_err-moment-clause-time c =
    c.from_residual.ensures ∙ sym (no_moment c.args.year c.args.month c.args.day c.args.clock.hour c.args.clock.minute c.args.clock.second c.in_err-moment.ensures)

pub returns-clause-time : goal.returns-clause-time
returns-clause-time c =
    let e = c.in_ok-moment.ensures in
    let fits : FitsSigned w64 c.to_second.result = search rules in
    c.milli_of.ensures.milli ∙ ap milli_of (to_z-of_z w64 c.to_second.result fits) ∙ a_moment c.args.year c.args.month c.args.day c.args.clock.hour c.args.clock.minute c.args.clock.second c.in_ok-moment.moment c.to_second.result e.0 e.1 e.2 (c.to_second.ensures.value ∙ ap civil_seconds c.to_plain.ensures)
