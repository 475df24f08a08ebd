use Rattle.listing_check.proofs.ReportTurns.{five}
use Rattle.listing_check.proofs.report_text.push_line.Goals as goal

pub returns : goal.returns
returns c =
    five c.args.text.now.items _ _ _ _ _ _ _ _ _ _ c.in_ok-extend_from_slice.ensures.items c.in_ok-write_number.ensures.ok c.in_ok-extend_from_slice-2.ensures.items c.in_ok-extend_from_slice-3.ensures.items c.in_ok-extend_from_slice-4.ensures.items
