use Rattle.row_scan.proofs.Turns.{scan_begins, turn_goes_on, others_pass, skips_pass, turn_ends}
use Rattle.row_scan.proofs.laws.turns_make_scan.Goals as goal

pub returns : goal.returns
returns c = record { begins = scan_begins; goes_on = turn_goes_on; others = others_pass; skips = skips_pass; ends = turn_ends }
