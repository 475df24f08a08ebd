use Rattle.std.proofs.Common.{◌≡◌, length, nat_eq, rules}
use Rattle.std.specs.Prelude.{not}
use Rattle.listing_job.proofs.fsck_job.report_of.Goals as goal

pub returns : goal.returns
returns c =
    let report = c.in_ok-report.report in
    let none : c.is_empty.result ≡ nat_eq (length report.faults.items) 0 = search (rules, c.is_empty.ensures) in
    let text = c.in_ok-text.ensures in
    (report, record { faults = c.in_ok-report.ensures.faults; notes = c.in_ok-report.ensures.notes }, λ i. record { refused = not (none i); text = text i })
