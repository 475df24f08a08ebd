use Rattle.std.proofs.Common.{◌≡◌, ◌+◌, ◌-◌, ◌≤◌, ◌∙◌, ap, arith, ℕ, take, drop}
use Rattle.query_requests.specs.CivilDates.{number_at}
use Rattle.query_requests.proofs.DateLemmas.{number_is, slice_short}
use Rattle.query_requests.proofs.civil_dates.number_at.Goals as goal

pub returns : goal.returns
returns c =
    let m = c.args.at + c.args.len - c.args.at in
    let n : m ≡ c.args.len = omega arith in
    let few : m ≤ 4 = (let f = c.requires.few in omega (arith, n, f)) in
    number_is (take m (drop c.args.at c.args.text.now)) c.read_digits.result (slice_short c.args.text.now c.args.at m few) c.read_digits.ensures
    ∙ ap (λ (k : ℕ). number_at c.args.at k c.args.text.now) n
