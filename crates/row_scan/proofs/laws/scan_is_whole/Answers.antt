use Rattle.row_scan.proofs.Whole.{scan_whole}
use Rattle.row_scan.proofs.Counting.{scan_counts, scan_shows}
use Rattle.row_scan.proofs.laws.scan_is_whole.Goals as goal

pub returns : goal.returns
returns c = record { whole = scan_whole; counts = scan_counts; shows = scan_shows }
